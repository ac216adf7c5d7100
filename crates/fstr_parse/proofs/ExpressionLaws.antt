-- Strings and steps lie within the text.
use Rattle.std.proofs.Common.{◌≡◌, ◌≢◌, ℕ, zero, suc, ◌+◌, ◌-◌, ◌≤◌, ◌<◌, ◌⊎◌, inl, inr, true, false, ◌&&◌, ◌||◌, ◌==◌, cond, [], ◌∷◌, length, drop, refl, sym, ap, ◌∙◌, subst, arith, ⊎_elim}
use Rattle.std.proofs.lemmas.Bool.{and_parts, or_cases, both_ways, cond_both, cond-true, eqb-true, false_from_ne_true}
use Rattle.std.proofs.lemmas.Bool.Decides.{nat_tests}
use Rattle.std.proofs.lemmas.List.{length-drop, drop-drop, drop_all}
use Rattle.fstr_parse.specs.Bytes.{Text, byte, is_quote, is_opening, is_closing}
use Rattle.fstr_parse.specs.Expressions.{quotes_len, are_quotes, ends_at, brackets_behind, is_mark, inside, Halts}
use Rattle.fstr_parse.specs.Scan.{body_len, opened_len, string_len, step_len}
use Rattle.fstr_parse.proofs.RowLaws.{byte_within}

-- a byte above 0 stands within the text
pub byte_in : (text : Text) (place b : ℕ) → 0 < b → byte text place ≡ b → place < length text
byte_in text place zero some e = absurd (omega arith)
byte_in text place (suc b) some e = byte_within text place b e

pub quote_some : (b : ℕ) → is_quote b ≡ true → 0 < b
quote_some b e = grind (arith, nat_tests)

-- three quotes, or one
pub quotes_count : (text : Text) → (quotes_len text ≡ 1) ⊎ (quotes_len text ≡ 3)
unfolding quotes_len
quotes_count text =
    cond_both (byte text 1 == byte text 0 && byte text 2 == byte text 0) 3 1 (λ n. (n ≡ 1) ⊎ (n ≡ 3)) (λ _. inr refl) (λ _. inl refl)

pub quotes_within : (text : Text) → is_quote (byte text 0) ≡ true → quotes_len text ≤ length text
unfolding quotes_len
quotes_within text quote =
    let some : 0 < byte text 0 = quote_some (byte text 0) quote in
    let first : 0 < length text = byte_in text 0 (byte text 0) some refl in
    cond_both (byte text 1 == byte text 0 && byte text 2 == byte text 0) 3 1 (λ n. n ≤ length text)
    (λ three.
    let parts : ((byte text 1 == byte text 0) ≡ true) × ((byte text 2 == byte text 0) ≡ true) = and_parts _ _ three in
    let last : 2 < length text = byte_in text 2 (byte text 0) some (eqb-true (byte text 2) (byte text 0) parts.1) in
    omega arith)
    (λ _. omega arith)

pub are_quotes_within : (quote count : ℕ) (text : Text) → 0 < quote → (count ≡ 1) ⊎ (count ≡ 3) → are_quotes quote count text ≡ true → count ≤ length text
unfolding are_quotes
are_quotes_within quote count text some either e =
    let parts : ((byte text 0 == quote) ≡ true) × ((count == 1 || (byte text 1 == quote && byte text 2 == quote)) ≡ true) = and_parts _ _ e in
    let first : 0 < length text = byte_in text 0 quote some (eqb-true (byte text 0) quote parts.0) in
    ⊎_elim
    (λ one. let is : count ≡ 1 = eqb-true count 1 one in omega arith)
    (λ three.
    let both : ((byte text 1 == quote) ≡ true) × ((byte text 2 == quote) ≡ true) = and_parts _ _ three in
    let last : 2 < length text = byte_in text 2 quote some (eqb-true (byte text 2) quote both.1) in
    ⊎_elim (λ is. omega arith) (λ is. omega arith) either)
    (or_cases (count == 1) (byte text 1 == quote && byte text 2 == quote) parts.1)

-- a string that stands here lies within the text
pub string_within : (text : Text) → is_quote (byte text 0) ≡ true → are_quotes (byte text 0) (quotes_len text) (drop (opened_len text) text) ≡ true → opened_len text + quotes_len text ≤ length text
string_within text quote closed =
    let some : 0 < byte text 0 = quote_some (byte text 0) quote in
    let fits : quotes_len text ≤ length (drop (opened_len text) text) =
    are_quotes_within (byte text 0) (quotes_len text) (drop (opened_len text) text) some (quotes_count text) closed in
    let count = quotes_count text in
    ⊎_elim (λ is. omega (arith, length-drop (opened_len text) text)) (λ is. omega (arith, length-drop (opened_len text) text)) count

-- before closing quotes, a backslash or the end
body_stops : (quote count : ℕ) (text : Text) → (drop (body_len quote count text) text ≡ []) ⊎ (are_quotes quote count (drop (body_len quote count text) text) ≡ true ⊎ byte (drop (body_len quote count text) text) 0 ≡ 92)
body_stops quote count [] = inl refl
body_stops quote count (b ∷ text) =
    let rest = body_stops quote count text in
    cond_both (are_quotes quote count (b ∷ text) || b == 92) 0 (1 + body_len quote count text)
    (λ n. (drop n (b ∷ text) ≡ []) ⊎ (are_quotes quote count (drop n (b ∷ text)) ≡ true ⊎ byte (drop n (b ∷ text)) 0 ≡ 92))
    (λ stops. inr (⊎_elim (λ quotes. inl quotes) (λ backslash. inr (eqb-true b 92 backslash)) (or_cases (are_quotes quote count (b ∷ text)) (b == 92) stops)))
    (λ _. let more : 1 + body_len quote count text ≡ suc (body_len quote count text) = omega arith in rw more rest)

-- where no quote stands, no string is opened
pub opened_none : (text : Text) → is_quote (byte text 0) ≡ false → opened_len text ≡ 0
unfolding opened_len
opened_none text e = rw e refl

-- an opened string is its quotes and its body
pub opened_some : (text : Text) → is_quote (byte text 0) ≡ true → opened_len text ≡ quotes_len text + body_len (byte text 0) (quotes_len text) (drop (quotes_len text) text)
unfolding opened_len
opened_some text e = rw e refl

-- a string that stands nowhere has no closing quotes
pub not_closed : (text : Text) → string_len text ≡ 0 → are_quotes (byte text 0) (quotes_len text) (drop (opened_len text) text) ≡ false
unfolding string_len
not_closed text none =
    let closing = are_quotes (byte text 0) (quotes_len text) (drop (opened_len text) text) in
    let count = quotes_count text in
    false_from_ne_true closing (λ closed.
    let sum : opened_len text + quotes_len text ≡ 0 = sym (cond-true closing (opened_len text + quotes_len text) 0 closed) ∙ none in
    ⊎_elim (λ is. absurd (omega arith)) (λ is. absurd (omega arith)) count)

halts_at_byte : (rest : Text) (b : ℕ) → is_quote b ≡ false → (b ≡ 92) ⊎ (b ≡ 35) → byte rest 0 ≡ b → Halts (drop (opened_len rest) rest)
halts_at_byte rest b plain which e =
    let none : opened_len rest ≡ 0 = opened_none rest (rw e plain) in
    rw none (inr (⊎_elim (λ is. inl (e ∙ is)) (λ is. inr (e ∙ is)) which))

-- an opened string is its quotes and its body
pub opened_far : (text : Text) → is_quote (byte text 0) ≡ true → drop (opened_len text) text ≡ drop (body_len (byte text 0) (quotes_len text) (inside text)) (inside text)
opened_far text quote =
    ap (λ n. drop n text) (opened_some text quote) ∙ sym (drop-drop (body_len (byte text 0) (quotes_len text) (inside text)) (quotes_len text) text)

-- a string that is not closed comes to the text's end or a backslash
pub opened_halts : (rest : Text) → is_quote (byte rest 0) ≡ true → string_len rest ≡ 0 → (drop (opened_len rest) rest ≡ []) ⊎ (byte (drop (opened_len rest) rest) 0 ≡ 92)
opened_halts rest quote none =
    let count = quotes_len rest in
    let body = body_len (byte rest 0) count (inside rest) in
    let far = opened_far rest quote in
    let open_still : are_quotes (byte rest 0) count (drop body (inside rest)) ≡ false =
    subst (λ stop. are_quotes (byte rest 0) count stop ≡ false) far (not_closed rest none) in
    subst (λ stop. (stop ≡ []) ⊎ (byte stop 0 ≡ 92)) (sym far)
    (⊎_elim inl
    (⊎_elim (λ closed. absurd (both_ways _ open_still closed)) (λ backslash. inr backslash))
    (body_stops (byte rest 0) count (inside rest)))

halts_in_string : (rest : Text) → is_quote (byte rest 0) ≡ true → string_len rest ≡ 0 → Halts (drop (opened_len rest) rest)
halts_in_string rest quote none = ⊎_elim inl (λ backslash. inr (inl backslash)) (opened_halts rest quote none)

-- an expression that halts and has not ended is at the text's end, a backslash or a `#`, or in a string that stops at the
-- first or the second
pub halts_where : (brackets : ℕ) (rest : Text) → step_len brackets rest ≡ 0 → ends_at brackets rest ≡ false → Halts (drop (opened_len rest) rest)
unfolding step_len
halts_where brackets rest halts unended =
    cond_both (ends_at brackets rest || (length rest == 0 || (byte rest 0 == 92 || byte rest 0 == 35))) 0 (cond (is_quote (byte rest 0)) (string_len rest) 1)
    (λ n. n ≡ 0 → Halts (drop (opened_len rest) rest))
    (λ stops _.
    ⊎_elim (λ ended. absurd (both_ways _ unended ended))
    (λ others.
    ⊎_elim
    (λ empty. let none : length rest ≡ 0 = eqb-true (length rest) 0 empty in inl (drop_all (opened_len rest) rest (omega arith)))
    (λ bytes. ⊎_elim
    (λ backslash. halts_at_byte rest 92 refl (inl refl) (eqb-true (byte rest 0) 92 backslash))
    (λ comment. halts_at_byte rest 35 refl (inr refl) (eqb-true (byte rest 0) 35 comment))
    (or_cases (byte rest 0 == 92) (byte rest 0 == 35) bytes))
    (or_cases (length rest == 0) (byte rest 0 == 92 || byte rest 0 == 35) others))
    (or_cases (ends_at brackets rest) (length rest == 0 || (byte rest 0 == 92 || byte rest 0 == 35)) stops))
    (λ _. cond_both (is_quote (byte rest 0)) (string_len rest) 1 (λ n. n ≡ 0 → Halts (drop (opened_len rest) rest))
    (λ quote none. halts_in_string rest quote none) (λ _ one. absurd (omega arith)))
    halts

-- a step opens one bracket at most
pub brackets_more : (brackets : ℕ) (text : Text) → brackets_behind brackets text ≤ brackets + 1
unfolding brackets_behind
brackets_more brackets text =
    cond_both (is_opening (byte text 0)) (brackets + 1) _ (λ n. n ≤ brackets + 1) (λ _. omega arith)
    (λ _. cond_both (is_closing (byte text 0)) (brackets - 1) brackets (λ n. n ≤ brackets + 1) (λ _. omega arith) (λ _. omega arith))

-- a mark that is no `!` is a `}` or a `:`
pub mark_closes : (text : Text) → is_mark text ≡ true → byte text 0 ≢ 33 → (byte text 0 ≡ 125) ⊎ (byte text 0 ≡ 58)
unfolding is_mark
mark_closes text mark other =
    ⊎_elim (λ brace. inl (eqb-true (byte text 0) 125 brace))
    (λ later. ⊎_elim (λ colon. inr (eqb-true (byte text 0) 58 colon))
    (λ bang. absurd (other (eqb-true (byte text 0) 33 (and_parts (byte text 0 == 33) _ bang).0)))
    (or_cases (byte text 0 == 58) _ later))
    (or_cases (byte text 0 == 125) _ mark)
