-- An answer that is right is the only one.
use Rattle.std.proofs.Common.{◌≡◌, ℕ, List, Result, Ok, Err, subst}
use Rattle.std.specs.Prelude.{IfOk, IfErr}
use Rattle.fstr_parse.specs.declared.fault.FieldFault.{FieldFault}
use Rattle.tree_nodes.specs.Rows.{Row}
use Rattle.py_grammar.specs.Lines as grammar
use Rattle.py_grammar.specs.Terminals.{Terminal}
use Rattle.py_grammar.proofs.WholeLines.{line_unique}
use Rattle.py_token.specs.Tokenized.{Tokenized}
use Rattle.py_terminals.specs.Lines as source
use Rattle.py_terminals.proofs.UniqueLaws.{line_one}
use Rattle.read_lines.specs.Answers.{FaultsOnly, GivesOnly, NoFormOnly, OnField, OnNoForm}
use Rattle.read_lines.specs.Spelling.{Spells, HasNoForm, form_over}
use Rattle.read_lines.specs.declared.fault.LineFault.{LineFault}
use Rattle.read_lines.specs.declared.fault.LineFault.TheVariants.{NoForm, Field, Memory}
use Rattle.read_lines.specs.declared.form.LineForm.{LineForm}

-- a line has one list of terminals
same_terminals : (tokens : Tokenized) (line : ℕ) (one other : List Terminal) → source.IsLine tokens line (Ok one) → source.IsLine tokens line (Ok other) → one ≡ other
same_terminals tokens line one other x y = let same : Ok one ≡ Ok other = line_one tokens line (Ok one) (Ok other) x y in cc same

-- and no terminals where it has a fault
no_terminals : (tokens : Tokenized) (line : ℕ) (one : List Terminal) (fault : FieldFault) → source.IsLine tokens line (Ok one) → source.IsLine tokens line (Err fault) → ⊥
no_terminals tokens line one fault x y = let same : Ok one ≡ Err fault = line_one tokens line (Ok one) (Err fault) x y in cc same

same_fault : (tokens : Tokenized) (line : ℕ) (one other : FieldFault) → source.IsLine tokens line (Err one) → source.IsLine tokens line (Err other) → one ≡ other
same_fault tokens line one other x y = let same : Err one ≡ Err other = line_one tokens line (Err one) (Err other) x y in cc same

-- one line spells one form
one_form : (tokens : Tokenized) (line : ℕ) (one other : grammar.LineForm) → Spells tokens line one → Spells tokens line other → one ≡ other
one_form tokens line one other x y =
    let same = same_terminals tokens line x.terminals y.terminals x.come y.come in
    line_unique y.terminals one other (subst (λ (ts : List Terminal). grammar.IsLine ts one) same x.form_is) y.form_is

-- or none
some_or_none : (tokens : Tokenized) (line : ℕ) (form : grammar.LineForm) → Spells tokens line form → HasNoForm tokens line → ⊥
some_or_none tokens line form x y = y.none form (subst (λ (ts : List Terminal). grammar.IsLine ts form) (same_terminals tokens line x.terminals y.terminals x.come y.come) x.form_is)

pub every_from : (tokens : Tokenized) (line : ℕ) (rows : List Row) (answer : Result LineForm LineFault) → IfOk answer (λ given. Spells tokens line (form_over rows given)) → IfErr answer (OnNoForm (HasNoForm tokens line)) → IfErr answer (OnField (λ fault. source.IsLine tokens line (Err fault)))
    → (form : grammar.LineForm) → Spells tokens line form → GivesOnly rows answer form
every_from tokens line rows (Ok given) value none field form is = one_form tokens line (form_over rows given) form value is
every_from tokens line rows (Err NoForm) value none field form is = some_or_none tokens line form is none
every_from tokens line rows (Err (Field fault)) value none field form is = no_terminals tokens line is.terminals fault is.come field
every_from tokens line rows (Err Memory) value none field form is = tt

pub every_no_form_from : (tokens : Tokenized) (line : ℕ) (rows : List Row) (answer : Result LineForm LineFault) → IfOk answer (λ given. Spells tokens line (form_over rows given)) → IfErr answer (OnField (λ fault. source.IsLine tokens line (Err fault))) → HasNoForm tokens line → NoFormOnly answer
every_no_form_from tokens line rows (Ok given) value field is = some_or_none tokens line (form_over rows given) value is
every_no_form_from tokens line rows (Err NoForm) value field is = tt
every_no_form_from tokens line rows (Err (Field fault)) value field is = no_terminals tokens line is.terminals fault is.come field
every_no_form_from tokens line rows (Err Memory) value field is = tt

pub every_field_from : (tokens : Tokenized) (line : ℕ) (rows : List Row) (answer : Result LineForm LineFault) → IfOk answer (λ given. Spells tokens line (form_over rows given)) → IfErr answer (OnNoForm (HasNoForm tokens line)) → IfErr answer (OnField (λ fault. source.IsLine tokens line (Err fault)))
    → (fault : FieldFault) → source.IsLine tokens line (Err fault) → FaultsOnly answer fault
every_field_from tokens line rows (Ok given) value none field fault is = no_terminals tokens line value.terminals fault value.come is
every_field_from tokens line rows (Err NoForm) value none field fault is = no_terminals tokens line none.terminals fault none.come is
every_field_from tokens line rows (Err (Field other)) value none field fault is = same_fault tokens line other fault field is
every_field_from tokens line rows (Err Memory) value none field fault is = tt
