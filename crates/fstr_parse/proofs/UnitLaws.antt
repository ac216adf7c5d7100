-- The units of literal parts, by their lengths.
use Rattle.std.proofs.Common.{◌≡◌, ◌≢◌, ℕ, suc, ◌+◌, ◌<◌, ◌⊎◌, inl, inr, min, Bool, true, false, not, ◌&&◌, ◌||◌, ◌==◌, cond, [], ◌∷◌, ◌++◌, length, take, drop, get_or, refl, sym, ap, ◌∙◌, subst, arith, ⊎_elim}
use Rattle.std.specs.List.{concat, list_all, prefix_len}
use Rattle.std.proofs.lemmas.Bool.{cond_both, cond-true, cond-false, eqb-true, eqb-false, eq-eqb, ne_eqb, or_cases, or_parts, and_parts, and_from, and_left, and_right, or_left, or_right, both_ways, cases_lt, not-true, not-false, false_from_ne_true}
use Rattle.std.proofs.lemmas.List.{length-append, length-drop, append-nil, take_all, drop_all, drop_at}
use Rattle.std.proofs.lemmas.List.Sums.{prefix_len-le-length, prefix_len_stops}
use Rattle.std.proofs.Math.Seq.{take-suc}
use Rattle.fstr_parse.specs.Bytes.{Text, byte, is_brace}
use Rattle.fstr_parse.specs.Literals.{IsUnit, plain, doubled, named, cut_off, escape, alone, is_in_name, names_character, EndsLiteral, IsLiteral, same_depth}
use Rattle.fstr_parse.specs.Scan.{Leads, escape_len, unit_len, LiteralRow}
use Rattle.fstr_parse.proofs.JoinLaws.{Joins, row_of_leads, leads_of_row}

-- ---- names of characters

passes_at : (b n : ℕ) (text : Text) (pass : Bool) → is_in_name b ≡ pass → list_all is_in_name (take n text) ≡ true → list_all is_in_name (take (cond pass (1 + n) 0) (b ∷ text)) ≡ true
passes_at b n text true e rest =
    let more : 1 + n ≡ suc n = omega arith in
    rw (more, e) rest
passes_at b n text false e rest = refl

-- a name has no `}`
name_passes : (text : Text) → list_all is_in_name (take (prefix_len is_in_name text) text) ≡ true
name_passes [] = refl
name_passes (b ∷ text) = passes_at b (prefix_len is_in_name text) text (is_in_name b) refl (name_passes text)

-- a name that a `}` ends
name_ends : (name behind : Text) → list_all is_in_name name ≡ true → prefix_len is_in_name ((name ++ 125 ∷ []) ++ behind) ≡ length name
name_ends [] behind e = refl
name_ends (b ∷ name) behind e =
    let parts : (is_in_name b ≡ true) × (list_all is_in_name name ≡ true) = and_parts (is_in_name b) (list_all is_in_name name) e in
    let first = parts.0 in
    let later = name_ends name behind parts.1 in
    rw first (omega arith)

-- a name that the end cuts off
name_runs : (name : Text) → list_all is_in_name name ≡ true → prefix_len is_in_name (name ++ []) ≡ length name
name_runs [] e = refl
name_runs (b ∷ name) e =
    let parts : (is_in_name b ≡ true) × (list_all is_in_name name ≡ true) = and_parts (is_in_name b) (list_all is_in_name name) e in
    let first = parts.0 in
    let later = name_runs name parts.1 in
    rw first (omega arith)

-- ---- a length gives a unit

-- the unit of so many bytes at the front
abbrev Front : Bool → ℕ → Text → ℕ → Type 0
Front raw depth text len = IsUnit raw depth (take len text) (drop len text)

named_stands : (raw : Bool) (depth : ℕ) (text : Text) → raw ≡ false → Front raw depth (92 ∷ 78 ∷ 123 ∷ text) (min (suc (suc (suc (length text)))) (4 + prefix_len is_in_name text))
named_stands raw depth text read =
    let size = prefix_len is_in_name text in
    let passes = name_passes text in
    ⊎_elim
    (λ closed.
    let four : min (suc (suc (suc (length text)))) (4 + size) ≡ suc (suc (suc (suc size))) = omega arith in
    let stops : is_in_name (get_or text size 0) ≡ false = prefix_len_stops is_in_name text 0 closed in
    let brace : get_or text size 0 ≡ 125 = eqb-true (get_or text size 0) 125 (not-false (get_or text size 0 == 125) stops) in
    let last : take (suc size) text ≡ take size text ++ 125 ∷ [] = take-suc text size 0 closed ∙ ap (λ b. take size text ++ b ∷ []) brace in
    rw four (named (take size text) read passes (ap (λ t. 92 ∷ 78 ∷ 123 ∷ t) last)))
    (λ open_name.
    let within = prefix_len-le-length is_in_name text in
    let three : min (suc (suc (suc (length text)))) (4 + size) ≡ suc (suc (suc (length text))) = omega arith in
    let whole : take size text ≡ text = take_all size text open_name in
    rw three (cut_off text read (subst (λ t. list_all is_in_name t ≡ true) whole passes) (drop_all (length text) text (omega arith)) (ap (λ t. 92 ∷ 78 ∷ 123 ∷ t) (take_all (length text) text (omega arith)))))
    (cases_lt size (length text))

names_stands : (raw : Bool) (depth : ℕ) (text : Text) → names_character raw (92 ∷ text) ≡ true → Front raw depth (92 ∷ text) (min (length (92 ∷ text)) (4 + prefix_len is_in_name (drop 3 (92 ∷ text))))
names_stands raw depth [] e = absurd (both_ways (byte [] 0 == 78) refl (and_parts (byte [] 0 == 78) (byte [] 1 == 123) (and_parts (not raw) (byte [] 0 == 78 && byte [] 1 == 123) e).1).0)
names_stands raw depth (n ∷ []) e = absurd (both_ways (byte (n ∷ []) 1 == 123) refl (and_parts (n == 78) (byte (n ∷ []) 1 == 123) (and_parts (not raw) (n == 78 && byte (n ∷ []) 1 == 123) e).1).1)
names_stands raw depth (n ∷ b ∷ text) e =
    let read : raw ≡ false = not-true raw (and_parts (not raw) (n == 78 && b == 123) e).0 in
    let both : ((n == 78) ≡ true) × ((b == 123) ≡ true) = and_parts (n == 78) (b == 123) (and_parts (not raw) (n == 78 && b == 123) e).1 in
    let first : n ≡ 78 = eqb-true n 78 both.0 in
    let second : b ≡ 123 = eqb-true b 123 both.1 in
    subst (λ m. Front raw depth (92 ∷ m ∷ b ∷ text) (min (suc (suc (suc (length text)))) (4 + prefix_len is_in_name text))) (sym first)
    (subst (λ m. Front raw depth (92 ∷ 78 ∷ m ∷ text) (min (suc (suc (suc (length text)))) (4 + prefix_len is_in_name text))) (sym second)
    (named_stands raw depth text read))

escape_two : (raw : Bool) (depth : ℕ) (text : Text) → names_character raw (92 ∷ text) ≡ false → (length (92 ∷ text) == 1) ≡ false → is_brace (byte text 0) ≡ false → Front raw depth (92 ∷ text) 2
escape_two raw depth [] none some e = absurd (eqb-false (length {A = ℕ} (92 ∷ [])) 1 some refl)
escape_two raw depth (b ∷ text) none some e = escape b e none refl

escape_stands : (raw : Bool) (depth : ℕ) (text : Text) → Front raw depth (92 ∷ text) (escape_len raw (92 ∷ text))
unfolding escape_len
escape_stands raw depth text =
    cond_both (names_character raw (92 ∷ text)) (min (length (92 ∷ text)) (4 + prefix_len is_in_name (drop 3 (92 ∷ text)))) _ (Front raw depth (92 ∷ text))
    (λ names. names_stands raw depth text names)
    (λ none. cond_both (length (92 ∷ text) == 1 || is_brace (byte text 0)) 1 2 (Front raw depth (92 ∷ text))
    (λ which. alone
    (⊎_elim
    (λ one. let size : length (92 ∷ text) ≡ 1 = eqb-true (length (92 ∷ text)) 1 one in inl (drop_all 0 text (omega arith)))
    (λ brace. inr brace)
    (or_cases (length (92 ∷ text) == 1) (is_brace (byte text 0)) which))
    refl)
    (λ neither.
    let parts = or_parts (length (92 ∷ text) == 1) (is_brace (byte text 0)) neither in
    escape_two raw depth text none parts.0 parts.1))

brace_some : (b : ℕ) → is_brace b ≡ true → b ≢ 0
brace_some b e zero_byte = both_ways (is_brace b) (ap is_brace zero_byte) e

doubled_stands : (raw : Bool) (depth : ℕ) (b : ℕ) (text : Text) → is_brace b ≡ true → (depth == 0 && byte text 0 == b) ≡ true → Front raw depth (b ∷ text) 2
doubled_stands raw depth b [] brace e =
    let same : 0 ≡ b = eqb-true 0 b (and_parts (depth == 0) (0 == b) e).1 in
    absurd (brace_some b brace (sym same))
doubled_stands raw depth b (d ∷ text) brace e =
    let parts : ((depth == 0) ≡ true) × ((d == b) ≡ true) = and_parts (depth == 0) (d == b) e in
    doubled b brace (eqb-true depth 0 parts.0) (ap (λ x. b ∷ x ∷ []) (eqb-true d b parts.1))

unit_stands : (raw : Bool) (depth : ℕ) (text : Text) → 0 < unit_len raw depth text → Front raw depth text (unit_len raw depth text)
unfolding unit_len
unit_stands raw depth [] some = absurd (omega arith)
unit_stands raw depth (b ∷ text) some =
    let P : ℕ → Type 0 = λ n. 0 < n → Front raw depth (b ∷ text) n in
    cond_both (length (b ∷ text) == 0) 0 _ P (λ _ none. absurd (omega arith))
    (λ _. cond_both (is_brace b) _ _ P
    (λ brace. cond_both (depth == 0 && byte text 0 == b) 2 0 P (λ both _. doubled_stands raw depth b text brace both) (λ _ none. absurd (omega arith)))
    (λ no_brace. cond_both (b == 92) (escape_len raw (b ∷ text)) 1 P
    (λ backslash _. let is : b ≡ 92 = eqb-true b 92 backslash in subst (λ c. Front raw depth (c ∷ text) (escape_len raw (c ∷ text))) (sym is) (escape_stands raw depth text))
    (λ other _. plain b no_brace (eqb-false b 92 other) refl)))
    some

-- ---- a unit gives its length

not_nil : (b : ℕ) (text : Text) → (length (b ∷ text) == 0) ≡ false
not_nil b text = ne_eqb (length (b ∷ text)) 0 (λ e. absurd (omega arith))

plain_back : (raw : Bool) (depth b : ℕ) (behind : Text) → is_brace b ≡ false → b ≢ 92 → unit_len raw depth (b ∷ behind) ≡ 1
unfolding unit_len
plain_back raw depth b behind no_brace other =
    let some = not_nil b behind in
    let no_backslash : (b == 92) ≡ false = ne_eqb b 92 other in
    rw (some, no_brace, no_backslash) refl

doubled_back : (raw : Bool) (depth b : ℕ) (behind : Text) → is_brace b ≡ true → depth ≡ 0 → unit_len raw depth (b ∷ b ∷ behind) ≡ 2
unfolding unit_len
doubled_back raw depth b behind brace outside =
    let some = not_nil b (b ∷ behind) in
    let both : (depth == 0 && b == b) ≡ true = and_from (depth == 0) (b == b) (eq-eqb depth 0 outside) (eq-eqb b b refl) in
    rw (some, brace, both) refl

backslash_back : (raw : Bool) (depth : ℕ) (text : Text) → unit_len raw depth (92 ∷ text) ≡ escape_len raw (92 ∷ text)
unfolding unit_len
backslash_back raw depth text =
    let some = not_nil 92 text in
    rw some refl

escape_back : (raw : Bool) (b : ℕ) (behind : Text) → is_brace b ≡ false → names_character raw (92 ∷ b ∷ behind) ≡ false → escape_len raw (92 ∷ b ∷ behind) ≡ 2
unfolding escape_len
escape_back raw b behind no_brace none =
    let long : (length (92 ∷ b ∷ behind) == 1) ≡ false = ne_eqb (length (92 ∷ b ∷ behind)) 1 (λ e. absurd (omega arith)) in
    cond-false (names_character raw (92 ∷ b ∷ behind)) _ _ none ∙ cond-false (length (92 ∷ b ∷ behind) == 1 || is_brace b) 1 2 (rw (long, no_brace) refl)

brace_names_nothing : (raw : Bool) (text : Text) → (text ≡ []) ⊎ (is_brace (byte text 0) ≡ true) → names_character raw (92 ∷ text) ≡ false
brace_names_nothing raw text which =
    let no_letter : (byte text 0 == 78) ≡ false =
    ⊎_elim (λ empty. ap (λ t. byte t 0 == 78) empty)
    (λ brace. ⊎_elim
    (λ opening. ap (λ b. b == 78) (eqb-true (byte text 0) 123 opening))
    (λ closing. ap (λ b. b == 78) (eqb-true (byte text 0) 125 closing))
    (or_cases (byte text 0 == 123) (byte text 0 == 125) brace))
    which in
    and_right (not raw) (byte text 0 == 78 && byte text 1 == 123) (and_left (byte text 0 == 78) (byte text 1 == 123) no_letter)

alone_back : (raw : Bool) (behind : Text) → (behind ≡ []) ⊎ (is_brace (byte behind 0) ≡ true) → escape_len raw (92 ∷ behind) ≡ 1
unfolding escape_len
alone_back raw behind which =
    cond-false (names_character raw (92 ∷ behind)) _ _ (brace_names_nothing raw behind which)
    ∙ cond-true (length (92 ∷ behind) == 1 || is_brace (byte behind 0)) 1 2
    (⊎_elim
    (λ empty. or_left (length (92 ∷ behind) == 1) (is_brace (byte behind 0)) (eq-eqb (length (92 ∷ behind)) 1 (ap (λ t. suc (length t)) empty)))
    (λ brace. or_right (length (92 ∷ behind) == 1) (is_brace (byte behind 0)) brace)
    which)

names_it : (raw : Bool) (text : Text) → raw ≡ false → names_character raw (92 ∷ 78 ∷ 123 ∷ text) ≡ true
names_it raw text read = ap (λ r. not r && (78 == 78 && 123 == 123)) read

named_len : (raw : Bool) (text : Text) → raw ≡ false → escape_len raw (92 ∷ 78 ∷ 123 ∷ text) ≡ min (suc (suc (suc (length text)))) (4 + prefix_len is_in_name text)
unfolding escape_len
named_len raw text read = cond-true (names_character raw (92 ∷ 78 ∷ 123 ∷ text)) _ _ (names_it raw text read)

named_back : (raw : Bool) (name behind : Text) → raw ≡ false → list_all is_in_name name ≡ true → escape_len raw (92 ∷ 78 ∷ 123 ∷ ((name ++ 125 ∷ []) ++ behind)) ≡ suc (suc (suc (length (name ++ 125 ∷ []))))
named_back raw name behind read passes =
    let inner = (name ++ 125 ∷ []) ++ behind in
    let size : prefix_len is_in_name inner ≡ length name = name_ends name behind passes in
    let long : length inner ≡ length (name ++ 125 ∷ []) + length behind = length-append (name ++ 125 ∷ []) behind in
    let one : length (name ++ 125 ∷ []) ≡ length name + 1 = length-append name (125 ∷ []) in
    named_len raw inner read ∙ omega arith

cut_off_back : (raw : Bool) (name behind : Text) → raw ≡ false → list_all is_in_name name ≡ true → behind ≡ [] → escape_len raw (92 ∷ 78 ∷ 123 ∷ (name ++ behind)) ≡ suc (suc (suc (length name)))
cut_off_back raw name behind read passes empty =
    let size : prefix_len is_in_name (name ++ []) ≡ length name = name_runs name passes in
    let long : length (name ++ []) ≡ length name = ap length (append-nil name) in
    ap (λ t. escape_len raw (92 ∷ 78 ∷ 123 ∷ (name ++ t))) empty ∙ (named_len raw (name ++ []) read ∙ omega arith)

-- a unit is not empty, and its length is what stands where it stands
abbrev Back : Bool → ℕ → Text → Text → Type 0
Back raw depth behind unit = (0 < length unit) × (unit_len raw depth (unit ++ behind) ≡ length unit)

unit_back : (raw : Bool) (depth : ℕ) (unit behind : Text) → IsUnit raw depth unit behind → Back raw depth behind unit
unit_back raw depth unit behind (plain b no_brace other is) =
    subst (Back raw depth behind) (sym is) (omega arith, plain_back raw depth b behind no_brace other)
unit_back raw depth unit behind (doubled b brace outside is) =
    subst (Back raw depth behind) (sym is) (omega arith, doubled_back raw depth b behind brace outside)
unit_back raw depth unit behind (named name read passes is) =
    subst (Back raw depth behind) (sym is) (omega arith, backslash_back raw depth (78 ∷ 123 ∷ ((name ++ 125 ∷ []) ++ behind)) ∙ named_back raw name behind read passes)
unit_back raw depth unit behind (cut_off name read passes empty is) =
    subst (Back raw depth behind) (sym is) (omega arith, backslash_back raw depth (78 ∷ 123 ∷ (name ++ behind)) ∙ cut_off_back raw name behind read passes empty)
unit_back raw depth unit behind (escape b no_brace none is) =
    subst (Back raw depth behind) (sym is) (omega arith, backslash_back raw depth (b ∷ behind) ∙ escape_back raw b behind no_brace none)
unit_back raw depth unit behind (alone which is) =
    subst (Back raw depth behind) (sym is) (omega arith, backslash_back raw depth behind ∙ alone_back raw behind which)

unit_joins : (raw : Bool) → Joins (IsUnit raw) (unit_len raw) same_depth
unit_joins raw = record {
  stands = unit_stands raw;
  some = λ depth unit behind is. (unit_back raw depth unit behind is).0;
  back = λ depth unit behind is. (unit_back raw depth unit behind is).1;
  same_behind = λ depth unit behind some. refl;
}

-- ---- where literal parts end

-- no unit stands where a literal part ends
pub ends_no_unit : (raw : Bool) (depth : ℕ) (text : Text) → EndsLiteral depth text → unit_len raw depth text ≡ 0
unfolding unit_len
ends_no_unit raw depth text which =
    ⊎_elim
    (λ empty. ap (unit_len raw depth) empty)
    (λ single.
    let brace = single.0 in
    cond_both (length text == 0) 0 _ (λ n. n ≡ 0) (λ _. refl)
    (λ _. cond-true (is_brace (byte text 0)) (cond (depth == 0 && byte text 1 == byte text 0) 2 0) _ brace
    ∙ cond-false (depth == 0 && byte text 1 == byte text 0) 2 0
    (false_from_ne_true (depth == 0 && byte text 1 == byte text 0) (λ both.
    let parts = and_parts (depth == 0) (byte text 1 == byte text 0) both in
    single.1 (eqb-true depth 0 parts.0) (eqb-true (byte text 1) (byte text 0) parts.1)))))
    which

escape_some : (raw : Bool) (text : Text) → 0 < length text → 0 < escape_len raw text
unfolding escape_len
escape_some raw text some =
    cond_both (names_character raw text) (min (length text) (4 + prefix_len is_in_name (drop 3 text))) _ (λ n. 0 < n) (λ _. omega arith)
    (λ _. cond_both (length text == 1 || is_brace (byte text 1)) 1 2 (λ n. 0 < n) (λ _. omega arith) (λ _. omega arith))

-- and a literal part ends where none stands
pub no_unit_ends : (raw : Bool) (depth : ℕ) (text : Text) → unit_len raw depth text ≡ 0 → EndsLiteral depth text
unfolding unit_len
no_unit_ends raw depth text none =
    let P : ℕ → Type 0 = λ n. n ≡ 0 → EndsLiteral depth text in
    cond_both (length text == 0) 0 _ P
    (λ empty _. let size : length text ≡ 0 = eqb-true (length text) 0 empty in inl (drop_all 0 text (omega arith)))
    (λ some. cond_both (is_brace (byte text 0)) _ _ P
    (λ brace. cond_both (depth == 0 && byte text 1 == byte text 0) 2 0 P (λ _ two. absurd (omega arith))
    (λ apart _. inr (brace, λ outside same. both_ways (depth == 0 && byte text 1 == byte text 0) apart (and_from (depth == 0) (byte text 1 == byte text 0) (eq-eqb depth 0 outside) (eq-eqb (byte text 1) (byte text 0) same)))))
    (λ _. cond_both (byte text 0 == 92) (escape_len raw text) 1 P
    (λ _ zero_len.
    let long : length text ≢ 0 = eqb-false (length text) 0 some in
    let more : 0 < escape_len raw text = escape_some raw text (omega arith) in
    absurd (omega arith))
    (λ _ one. absurd (omega arith))))
    none

-- ---- literal parts

pub literal_of_row : (raw : Bool) (depth : ℕ) (text : Text) (len : ℕ) → LiteralRow raw depth text len → IsLiteral raw depth text len
literal_of_row raw depth text len row =
    let rest = drop len text in
    let made = row_of_leads (IsUnit raw) (unit_len raw) same_depth (unit_joins raw) row.units depth text depth rest row.row in
    let sizes : length text ≡ length (concat made.steps) + length rest = ap length made.is ∙ length-append (concat made.steps) rest in
    record {
      units = made.steps;
      rest = rest;
      is = made.is;
      size = omega (arith, length-drop len text, row.within);
      row = made.row;
      ends = no_unit_ends raw depth rest row.ends;
    }

pub row_of_literal : (raw : Bool) (depth : ℕ) (text : Text) (len : ℕ) → IsLiteral raw depth text len → LiteralRow raw depth text len
row_of_literal raw depth text len literal =
    let led = leads_of_row (IsUnit raw) (unit_len raw) same_depth (unit_joins raw) literal.units depth text depth literal.rest literal.is literal.row in
    let left : drop len text ≡ literal.rest = ap (λ n. drop n text) literal.size ∙ (ap (drop (length (concat literal.units))) literal.is ∙ drop_at (concat literal.units) literal.rest (length (concat literal.units)) refl) in
    let sizes : length text ≡ length (concat literal.units) + length literal.rest = ap length literal.is ∙ length-append (concat literal.units) literal.rest in
    record {
      units = led.steps;
      within = omega (arith, literal.size);
      row = subst (λ t. Leads (unit_len raw) same_depth led.steps depth text depth t) (sym left) led.row;
      ends = subst (λ t. unit_len raw depth t ≡ 0) (sym left) (ends_no_unit raw depth literal.rest literal.ends);
    }
