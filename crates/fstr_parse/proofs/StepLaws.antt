-- The steps of expressions, by their lengths.
use Rattle.std.proofs.Common.{◌≡◌, ◌≢◌, ℕ, zero, suc, ◌+◌, ◌≤◌, ◌<◌, ◌⊎◌, inl, inr, true, false, ◌||◌, ◌==◌, [], ◌∷◌, ◌++◌, length, take, drop, refl, sym, ap, ◌∙◌, subst, arith, ⊎_elim}
use Rattle.std.specs.List.{concat}
use Rattle.std.proofs.lemmas.Bool.{cond_both, cond-true, cond-false, eqb-true, eqb-false, eq-eqb, ne_eqb, or_cases, or_parts, or_left, or_right, and_left, and_right, cases_Bool}
use Rattle.std.proofs.lemmas.List.{length-append, length-drop, length-take-le, take-append-drop, drop_at}
use Rattle.fstr_parse.specs.Bytes.{Text, byte, is_quote}
use Rattle.fstr_parse.specs.Expressions.{IsBody, IsString, IsOpened, IsStep, whole_string, single_byte, IsExpression, IsHalted, Halts, inside, quotes_len, are_quotes, ends_at, is_end, is_mark, equals_len, brackets_behind}
use Rattle.fstr_parse.specs.Scan.{Leads, body_len, opened_len, string_len, step_len, ExpressionRow, HaltRow}
use Rattle.fstr_parse.proofs.ExpressionLaws.{byte_in, quote_some, quotes_count, string_within, opened_none, opened_some, opened_far, opened_halts, halts_where}
use Rattle.fstr_parse.proofs.JoinLaws.{Joins, row_of_leads, leads_of_row}

-- ---- bodies of strings

body_within : (quote count : ℕ) (text : Text) → body_len quote count text ≤ length text
body_within quote count [] = omega arith
body_within quote count (b ∷ text) =
    let later = body_within quote count text in
    cond_both (are_quotes quote count (b ∷ text) || b == 92) 0 (1 + body_len quote count text) (λ n. n ≤ suc (length text)) (λ _. omega arith) (λ _. omega arith)

body_before : (quote count : ℕ) (text : Text) (place : ℕ) → place < body_len quote count text → (are_quotes quote count (drop place text) ≡ false) × (byte text place ≢ 92)
body_before quote count [] place lt = absurd (omega arith)
body_before quote count (b ∷ text) zero lt =
    cond_both (are_quotes quote count (b ∷ text) || b == 92) 0 (1 + body_len quote count text) (λ n. 0 < n → (are_quotes quote count (b ∷ text) ≡ false) × (b ≢ 92))
    (λ _ none. absurd (omega arith))
    (λ goes _. let parts = or_parts (are_quotes quote count (b ∷ text)) (b == 92) goes in (parts.0, eqb-false b 92 parts.1))
    lt
body_before quote count (b ∷ text) (suc place) lt =
    cond_both (are_quotes quote count (b ∷ text) || b == 92) 0 (1 + body_len quote count text) (λ n. suc place < n → (are_quotes quote count (drop place text) ≡ false) × (byte text place ≢ 92))
    (λ _ none. absurd (omega arith))
    (λ _ more. body_before quote count text place (omega arith))
    lt

-- a body of this length, and then its end
abbrev Ends : ℕ → ℕ → Text → Type 0
Ends quote count text = (text ≡ []) ⊎ (are_quotes quote count text ≡ true ⊎ byte text 0 ≡ 92)

body_is : (quote count : ℕ) (text : Text) (body : ℕ) → body ≤ length text → ((place : ℕ) → place < body → are_quotes quote count (drop place text) ≡ false) → ((place : ℕ) → place < body → byte text place ≢ 92) → Ends quote count (drop body text) → body_len quote count text ≡ body
body_is quote count [] body within unquoted plain ends = omega arith
body_is quote count (b ∷ text) zero within unquoted plain ends =
    let stops : (are_quotes quote count (b ∷ text) || b == 92) ≡ true =
    ⊎_elim (λ empty. let none : length (b ∷ text) ≡ 0 = ap length empty in absurd (omega arith))
    (⊎_elim (λ quotes. or_left (are_quotes quote count (b ∷ text)) (b == 92) quotes)
    (λ backslash. or_right (are_quotes quote count (b ∷ text)) (b == 92) (eq-eqb b 92 backslash)))
    ends in
    cond-true (are_quotes quote count (b ∷ text) || b == 92) 0 (1 + body_len quote count text) stops
body_is quote count (b ∷ text) (suc body) within unquoted plain ends =
    let no_backslash : (b == 92) ≡ false = ne_eqb b 92 (plain 0 (omega arith)) in
    let no_quotes : are_quotes quote count (b ∷ text) ≡ false = unquoted 0 (omega arith) in
    let goes : (are_quotes quote count (b ∷ text) || b == 92) ≡ false = rw (no_quotes, no_backslash) refl in
    let later : body_len quote count text ≡ body = body_is quote count text body (omega arith) (λ place lt. unquoted (suc place) (omega arith)) (λ place lt. plain (suc place) (omega arith)) ends in
    cond-false (are_quotes quote count (b ∷ text) || b == 92) 0 (1 + body_len quote count text) goes ∙ omega arith

-- the body that the code finds
own_body : (text : Text) → is_quote (byte text 0) ≡ true → IsBody text (body_len (byte text 0) (quotes_len text) (inside text))
own_body text quote = record {
  quote = quote;
  within = body_within (byte text 0) (quotes_len text) (inside text);
  unquoted = λ place lt. (body_before (byte text 0) (quotes_len text) (inside text) place lt).0;
  plain = λ place lt. (body_before (byte text 0) (quotes_len text) (inside text) place lt).1;
}

found_body : (text : Text) (body : ℕ) → IsBody text body → Ends (byte text 0) (quotes_len text) (drop body (inside text)) → body_len (byte text 0) (quotes_len text) (inside text) ≡ body
found_body text body own ends = body_is (byte text 0) (quotes_len text) (inside text) body own.within own.unquoted own.plain ends

-- ---- strings

string_of_len : (text : Text) → is_quote (byte text 0) ≡ true → 0 < string_len text → IsString text (string_len text) × (string_len text ≤ length text)
unfolding string_len
string_of_len text quote some =
    let closing = are_quotes (byte text 0) (quotes_len text) (drop (opened_len text) text) in
    cond_both closing (opened_len text + quotes_len text) 0 (λ n. 0 < n → IsString text n × (n ≤ length text))
    (λ closed _. (
      record {
        body = body_len (byte text 0) (quotes_len text) (inside text);
        own = own_body text quote;
        closed = subst (λ t. are_quotes (byte text 0) (quotes_len text) t ≡ true) (opened_far text quote) closed;
        size = ap (λ n. n + quotes_len text) (opened_some text quote);
      },
      string_within text quote closed,
    ))
    (λ _ none. absurd (omega arith))
    some

len_of_string : (text : Text) (len : ℕ) → IsString text len → string_len text ≡ len
unfolding string_len
len_of_string text len is =
    let quote = is.own.quote in
    let same = found_body text is.body is.own (inr (inl is.closed)) in
    let far : drop (opened_len text) text ≡ drop is.body (inside text) = opened_far text quote ∙ ap (λ n. drop n (inside text)) same in
    let closed : are_quotes (byte text 0) (quotes_len text) (drop (opened_len text) text) ≡ true = subst (λ t. are_quotes (byte text 0) (quotes_len text) t ≡ true) (sym far) is.closed in
    cond-true (are_quotes (byte text 0) (quotes_len text) (drop (opened_len text) text)) (opened_len text + quotes_len text) 0 closed
    ∙ omega (arith, opened_some text quote, is.size)

-- ---- steps

quote_is : (b : ℕ) → is_quote b ≡ true → (b ≡ 39) ⊎ (b ≡ 34)
quote_is b e = ⊎_elim (λ one. inl (eqb-true b 39 one)) (λ two. inr (eqb-true b 34 two)) (or_cases (b == 39) (b == 34) e)

byte_no_equals : (text : Text) (b : ℕ) → (b == 61) ≡ false → byte text 0 ≡ b → equals_len text ≡ 0
unfolding equals_len
byte_no_equals text b other e = cond-false (byte text 0 == 61) _ 0 (ap (λ x. x == 61) e ∙ other)

byte_no_mark : (text : Text) (b : ℕ) → (b == 125 || (b == 58 || b == 33)) ≡ false → byte text 0 ≡ b → is_mark text ≡ false
unfolding is_mark
byte_no_mark text b other e =
    let first = or_parts (b == 125) (b == 58 || b == 33) other in
    let second = or_parts (b == 58) (b == 33) first.1 in
    let p = first.0 in
    let q = second.0 in
    let r = second.1 in
    rw (e, p, q, r) refl

byte_no_end : (brackets : ℕ) (text : Text) (b : ℕ) → (b == 61) ≡ false → (b == 125 || (b == 58 || b == 33)) ≡ false → byte text 0 ≡ b → ends_at brackets text ≡ false
unfolding is_end
byte_no_end brackets text b other others e =
    and_right (brackets == 0) (is_end text) (ap (λ n. is_mark (drop n text)) (byte_no_equals text b other e) ∙ byte_no_mark text b others e)

-- no expression ends before a quote
quote_no_end : (brackets : ℕ) (text : Text) → is_quote (byte text 0) ≡ true → ends_at brackets text ≡ false
quote_no_end brackets text quote =
    ⊎_elim (λ one. byte_no_end brackets text 39 refl refl one) (λ two. byte_no_end brackets text 34 refl refl two) (quote_is (byte text 0) quote)

-- at a quote the step is the string
step_of_quote : (brackets : ℕ) (text : Text) → is_quote (byte text 0) ≡ true → step_len brackets text ≡ string_len text
unfolding step_len
step_of_quote brackets text quote =
    let going = quote_no_end brackets text quote in
    let first : 0 < length text = byte_in text 0 (byte text 0) (quote_some (byte text 0) quote) refl in
    let some : (length text == 0) ≡ false = ne_eqb (length text) 0 (λ e. absurd (omega arith)) in
    let no_stop : (byte text 0 == 92 || byte text 0 == 35) ≡ false =
    ⊎_elim (λ one. ap (λ b. b == 92 || b == 35) one) (λ two. ap (λ b. b == 92 || b == 35) two) (quote_is (byte text 0) quote) in
    let goes : (ends_at brackets text || (length text == 0 || (byte text 0 == 92 || byte text 0 == 35))) ≡ false = rw (going, some, no_stop) refl in
    cond-false (ends_at brackets text || (length text == 0 || (byte text 0 == 92 || byte text 0 == 35))) 0 _ goes
    ∙ cond-true (is_quote (byte text 0)) (string_len text) 1 quote

-- at another byte it is that byte
step_of_byte : (brackets b : ℕ) (behind : Text) → is_quote b ≡ false → b ≢ 92 → b ≢ 35 → ends_at brackets (b ∷ behind) ≡ false → step_len brackets (b ∷ behind) ≡ 1
unfolding step_len
step_of_byte brackets b behind no_quote no_backslash no_comment going =
    let some : (length (b ∷ behind) == 0) ≡ false = ne_eqb (length (b ∷ behind)) 0 (λ e. absurd (omega arith)) in
    let first : (b == 92) ≡ false = ne_eqb b 92 no_backslash in
    let second : (b == 35) ≡ false = ne_eqb b 35 no_comment in
    let goes : (ends_at brackets (b ∷ behind) || (length (b ∷ behind) == 0 || (b == 92 || b == 35))) ≡ false = rw (going, some, first, second) refl in
    cond-false (ends_at brackets (b ∷ behind) || (length (b ∷ behind) == 0 || (b == 92 || b == 35))) 0 _ goes
    ∙ cond-false (is_quote b) (string_len (b ∷ behind)) 1 no_quote

abbrev Front : ℕ → Text → ℕ → Type 0
Front brackets text len = IsStep brackets (take len text) (drop len text)

string_front : (brackets : ℕ) (text : Text) (len : ℕ) → IsString text len → len ≤ length text → Front brackets text len
string_front brackets text len is within =
    whole_string (subst (λ n. IsString (take len text ++ drop len text) n) (sym (length-take-le len text within))
    (subst (λ t. IsString t len) (sym (take-append-drop len text)) is))

byte_front : (brackets : ℕ) (text : Text) → (length text == 0) ≡ false → ends_at brackets text ≡ false → (byte text 0 == 92 || byte text 0 == 35) ≡ false → is_quote (byte text 0) ≡ false → Front brackets text 1
byte_front brackets [] some going no_stop no_quote = absurd (eqb-false (length {A = ℕ} []) 0 some refl)
byte_front brackets (b ∷ text) some going no_stop no_quote =
    let parts = or_parts (b == 92) (b == 35) no_stop in
    single_byte b no_quote (eqb-false b 92 parts.0) (eqb-false b 35 parts.1) going refl

step_stands : (brackets : ℕ) (text : Text) → 0 < step_len brackets text → Front brackets text (step_len brackets text)
unfolding step_len
step_stands brackets text some =
    let P : ℕ → Type 0 = λ n. 0 < n → Front brackets text n in
    cond_both (ends_at brackets text || (length text == 0 || (byte text 0 == 92 || byte text 0 == 35))) 0 _ P
    (λ _ none. absurd (omega arith))
    (λ goes. let parts = or_parts (ends_at brackets text) (length text == 0 || (byte text 0 == 92 || byte text 0 == 35)) goes in
    let others = or_parts (length text == 0) (byte text 0 == 92 || byte text 0 == 35) parts.1 in
    cond_both (is_quote (byte text 0)) (string_len text) 1 P
    (λ quote closed. let string = string_of_len text quote closed in string_front brackets text (string_len text) string.0 string.1)
    (λ no_quote _. byte_front brackets text others.0 parts.0 others.1 no_quote))
    some

abbrev Back : ℕ → Text → Text → Type 0
Back brackets behind step = (0 < length step) × (step_len brackets (step ++ behind) ≡ length step)

step_back : (brackets : ℕ) (step behind : Text) → IsStep brackets step behind → Back brackets behind step
step_back brackets step behind (whole_string is) =
    let some : 0 < length step =
    let count = quotes_count (step ++ behind) in
    ⊎_elim (λ one. omega (arith, is.size)) (λ three. omega (arith, is.size)) count in
    (some, step_of_quote brackets (step ++ behind) is.own.quote ∙ len_of_string (step ++ behind) (length step) is)
step_back brackets step behind (single_byte b no_quote no_backslash no_comment going is) =
    subst (Back brackets behind) (sym is) (omega arith, step_of_byte brackets b behind no_quote no_backslash no_comment going)

first_byte : (step behind : Text) → 0 < length step → byte step 0 ≡ byte (step ++ behind) 0
first_byte [] behind some = absurd (omega arith)
first_byte (b ∷ step) behind some = refl

same_brackets : (brackets : ℕ) (step behind : Text) → 0 < length step → brackets_behind brackets step ≡ brackets_behind brackets (step ++ behind)
unfolding brackets_behind
same_brackets brackets step behind some =
    let e = first_byte step behind some in
    rw e refl

step_joins : Joins IsStep step_len brackets_behind
step_joins = record {
  stands = step_stands;
  some = λ brackets step behind is. (step_back brackets step behind is).0;
  back = λ brackets step behind is. (step_back brackets step behind is).1;
  same_behind = same_brackets;
}

-- ---- expressions

pub expression_of_row : (text : Text) (len : ℕ) → ExpressionRow text len → IsExpression text len
expression_of_row text len row =
    let rest = drop len text in
    let made = row_of_leads IsStep step_len brackets_behind step_joins row.steps 0 text 0 rest row.row in
    let sizes : length text ≡ length (concat made.steps) + length rest = ap length made.is ∙ length-append (concat made.steps) rest in
    record {
      steps = made.steps;
      rest = rest;
      is = made.is;
      size = omega (arith, length-drop len text, row.within);
      row = made.row;
      ends = row.ends;
    }

pub row_of_expression : (text : Text) (len : ℕ) → IsExpression text len → ExpressionRow text len
row_of_expression text len is =
    let led = leads_of_row IsStep step_len brackets_behind step_joins is.steps 0 text 0 is.rest is.is is.row in
    let left : drop len text ≡ is.rest = ap (λ n. drop n text) is.size ∙ (ap (drop (length (concat is.steps))) is.is ∙ drop_at (concat is.steps) is.rest (length (concat is.steps)) refl) in
    let sizes : length text ≡ length (concat is.steps) + length is.rest = ap length is.is ∙ length-append (concat is.steps) is.rest in
    record {
      steps = led.steps;
      within = omega (arith, is.size);
      row = subst (λ t. Leads step_len brackets_behind led.steps 0 text 0 t) (sym left) led.row;
      ends = subst (λ t. is_end t ≡ true) (sym left) is.ends;
    }

-- ---- halts

reached_of : (brackets : ℕ) (rest stop : Text) → step_len brackets rest ≡ 0 → ends_at brackets rest ≡ false → stop ≡ drop (opened_len rest) rest → ((stop ≡ rest) × Halts stop) ⊎ IsOpened rest stop
reached_of brackets rest stop halts unended here =
    ⊎_elim
    (λ quote.
    let none : string_len rest ≡ 0 = sym (step_of_quote brackets rest quote) ∙ halts in
    inr (record {
      body = body_len (byte rest 0) (quotes_len rest) (inside rest);
      own = own_body rest quote;
      here = here ∙ opened_far rest quote;
      halts = subst (λ t. (t ≡ []) ⊎ (byte t 0 ≡ 92)) (sym here) (opened_halts rest quote none);
    }))
    (λ no_quote. inl
    (here ∙ ap (λ n. drop n rest) (opened_none rest no_quote), subst Halts (sym here) (halts_where brackets rest halts unended)))
    (cases_Bool (is_quote (byte rest 0)))

pub halted_of_row : (text stop : Text) → HaltRow text stop → IsHalted text stop
halted_of_row text stop row =
    let made = row_of_leads IsStep step_len brackets_behind step_joins row.steps 0 text row.brackets row.rest row.row in
    record {
      steps = made.steps;
      brackets = row.brackets;
      rest = row.rest;
      is = made.is;
      row = made.row;
      unended = row.unended;
      reached = reached_of row.brackets row.rest stop row.halts row.unended row.here;
    }

-- at the text's end, a backslash and a `#` no step stands, and no string
halts_here : (brackets : ℕ) (rest : Text) → Halts rest → (step_len brackets rest ≡ 0) × (opened_len rest ≡ 0)
unfolding step_len
halts_here brackets rest which =
    let stops : (ends_at brackets rest || (length rest == 0 || (byte rest 0 == 92 || byte rest 0 == 35))) ≡ true =
    or_right (ends_at brackets rest) (length rest == 0 || (byte rest 0 == 92 || byte rest 0 == 35))
    (⊎_elim (λ empty. or_left (length rest == 0) (byte rest 0 == 92 || byte rest 0 == 35) (eq-eqb (length rest) 0 (ap length empty)))
    (λ bytes. or_right (length rest == 0) (byte rest 0 == 92 || byte rest 0 == 35)
    (⊎_elim (λ backslash. or_left (byte rest 0 == 92) (byte rest 0 == 35) (eq-eqb (byte rest 0) 92 backslash))
    (λ comment. or_right (byte rest 0 == 92) (byte rest 0 == 35) (eq-eqb (byte rest 0) 35 comment)) bytes))
    which) in
    let no_quote : is_quote (byte rest 0) ≡ false =
    ⊎_elim (λ empty. ap (λ t. is_quote (byte t 0)) empty) (⊎_elim (λ backslash. ap is_quote backslash) (λ comment. ap is_quote comment)) which in
    (cond-true (ends_at brackets rest || (length rest == 0 || (byte rest 0 == 92 || byte rest 0 == 35))) 0 _ stops, opened_none rest no_quote)

no_quotes_at : (quote count : ℕ) (text : Text) → is_quote quote ≡ true → (text ≡ []) ⊎ (byte text 0 ≡ 92) → are_quotes quote count text ≡ false
unfolding are_quotes
no_quotes_at quote count text is which =
    let other : (byte text 0 == quote) ≡ false =
    ⊎_elim
    (λ empty. ap (λ t. byte t 0 == quote) empty ∙ ⊎_elim (λ one. ap (λ q. 0 == q) one) (λ two. ap (λ q. 0 == q) two) (quote_is quote is))
    (λ backslash. ap (λ b. b == quote) backslash ∙ ⊎_elim (λ one. ap (λ q. 92 == q) one) (λ two. ap (λ q. 92 == q) two) (quote_is quote is))
    which in
    and_left (byte text 0 == quote) _ other

-- nor where a string is not closed
opened_here : (brackets : ℕ) (rest stop : Text) → IsOpened rest stop → (step_len brackets rest ≡ 0) × (stop ≡ drop (opened_len rest) rest)
unfolding string_len
opened_here brackets rest stop opened =
    let quote = opened.own.quote in
    let halts : (drop opened.body (inside rest) ≡ []) ⊎ (byte (drop opened.body (inside rest)) 0 ≡ 92) =
    subst (λ t. (t ≡ []) ⊎ (byte t 0 ≡ 92)) opened.here opened.halts in
    let same = found_body rest opened.body opened.own (⊎_elim inl (λ backslash. inr (inr backslash)) halts) in
    let far : drop (opened_len rest) rest ≡ drop opened.body (inside rest) = opened_far rest quote ∙ ap (λ n. drop n (inside rest)) same in
    let unclosed : are_quotes (byte rest 0) (quotes_len rest) (drop (opened_len rest) rest) ≡ false =
    subst (λ t. are_quotes (byte rest 0) (quotes_len rest) t ≡ false) (sym far) (no_quotes_at (byte rest 0) (quotes_len rest) (drop opened.body (inside rest)) quote halts) in
    (step_of_quote brackets rest quote ∙ cond-false (are_quotes (byte rest 0) (quotes_len rest) (drop (opened_len rest) rest)) _ 0 unclosed, opened.here ∙ sym far)

pub row_of_halted : (text stop : Text) → IsHalted text stop → HaltRow text stop
row_of_halted text stop is =
    let led = leads_of_row IsStep step_len brackets_behind step_joins is.steps 0 text is.brackets is.rest is.is is.row in
    ⊎_elim
    (λ here.
    let at = halts_here is.brackets is.rest (subst Halts here.0 here.1) in
    record {
      steps = led.steps;
      brackets = is.brackets;
      rest = is.rest;
      row = led.row;
      halts = at.0;
      unended = is.unended;
      here = here.0 ∙ ap (λ n. drop n is.rest) (sym at.1);
    })
    (λ opened.
    let at = opened_here is.brackets is.rest stop opened in
    record {
      steps = led.steps;
      brackets = is.brackets;
      rest = is.rest;
      row = led.row;
      halts = at.0;
      unended = is.unended;
      here = at.1;
    })
    is.reached
