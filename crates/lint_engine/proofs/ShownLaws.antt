-- What is shown of a reading is there, and nothing else is.
use Rattle.std.proofs.Common.{◌≡◌, ◌<◌, ◌≤◌, ◌+◌, ℕ, List, [], ◌∷◌, length, drop, get_or, true, false, refl, sym, ap, subst, ◌∙◌, append_assoc, arith}
use Rattle.std.specs.Prelude.{Option, Ok, Err}
use Rattle.std.specs.List.{AllByRecursion}
use Rattle.std.proofs.lemmas.List.{drop_more, drop_all, append-nil}
use Rattle.lint_values.specs.declared.place.FileId.{FileId}
use Rattle.lint_values.specs.declared.place.Pos.{Pos}
use Rattle.options.specs.Settings.{Settings}
use Rattle.options_file.specs.Settings.{SettingsRead, settings_of}
use Rattle.file_list.specs.declared.entry.Entry.{Entry}
use Rattle.file_list.specs.declared.entry.Entry.TheVariants as entry
use Rattle.file_list.specs.declared.entry.Listed.{Listed}
use Rattle.py_token.specs.declared.fault.TokenCause.{TokenCause}
use Rattle.py_token.specs.declared.fault.TokenFault.TheVariants.{At}
use Rattle.py_token.specs.FirstFault.{IsFirstFault}
use Rattle.py_token.specs.Tokenized.{Tokenized, IsTokenized}
use Rattle.py_token.proofs.OneAnswer.{every_from, every_fault_from}
use Rattle.tree_nodes.specs.Trees.{Tree}
use Rattle.pragma_scope.specs.Pragmas.{pragmas_of, skips_file}
use Rattle.parse_stmt.specs.declared.fault.SyntaxCause.{SyntaxCause}
use Rattle.parse_stmt.specs.Spelling.{Spells, IsFault}
use Rattle.parse_stmt.proofs.OneAnswer.{tree-one, fault-one, tree-or-fault}
use Rattle.lint_report.specs.declared.findings.Findings.{Findings}
use Rattle.lint_report.specs.declared.outcome.Whole.{Whole}
use Rattle.lint_engine.specs.Shown.{reason_of, syntax_reason, syntax_error, head_of, nothing, alone, together, found_in, shown_by, shown_of, IsSourceShown, faulty, skipped, formless, read, IsEntryShown, IsShownFrom, IsShown}
use Rattle.lint_engine.specs.Output.{IsShownBy, linted}
use Rattle.lint_engine.specs.Command.{Said, IsDetermined, generate_of}

-- ---- one source

pub faulty_source : (options : Settings) (reading : List Listed) (file : FileId) (bytes : List ℕ) (pos : Pos) (cause : TokenCause) (shown : Findings) → IsFirstFault bytes pos cause
    → shown ≡ shown_of options (alone (syntax_error file pos (reason_of cause))) → IsSourceShown options reading file bytes shown
faulty_source options reading file bytes pos cause shown first is = faulty pos cause first is

pub skipped_source : (options : Settings) (reading : List Listed) (file : FileId) (bytes : List ℕ) (tokens : Tokenized) (shown : Findings) → IsTokenized bytes tokens → skips_file tokens ≡ true → shown ≡ nothing → IsSourceShown options reading file bytes shown
skipped_source options reading file bytes tokens shown tokenized skips is = skipped tokens tokenized skips is

pub formless_source : (options : Settings) (reading : List Listed) (file : FileId) (bytes : List ℕ) (tokens : Tokenized) (line : ℕ) (cause : SyntaxCause) (shown : Findings) → IsTokenized bytes tokens → skips_file tokens ≡ false → IsFault tokens line cause
    → shown ≡ shown_of options (alone (syntax_error file (head_of line) (syntax_reason cause))) → IsSourceShown options reading file bytes shown
formless_source options reading file bytes tokens line cause shown tokenized goes fault is = formless tokens line cause tokenized goes fault is

pub read_source : (options : Settings) (reading : List Listed) (file : FileId) (bytes : List ℕ) (tokens : Tokenized) (tree : Tree) (shown : Findings) → IsTokenized bytes tokens → skips_file tokens ≡ false → Spells tokens tree
    → shown ≡ shown_by options (pragmas_of tokens tree).rows (found_in options reading file bytes tokens tree) → IsSourceShown options reading file bytes shown
read_source options reading file bytes tokens tree shown tokenized goes spelled is = read tokens tree tokenized goes spelled is

-- ---- parts behind each other

together_nothing : (a : Findings) → together a nothing ≡ a
together_nothing a = (λ i. record { messages = append-nil a.messages i; statements = add_nothing a.statements i })
  where
    add_nothing : (n : ℕ) → n + 0 ≡ n
    add_nothing n = omega arith

together_assoc : (a b c : Findings) → together (together a b) c ≡ together a (together b c)
together_assoc a b c = (λ i. record { messages = append_assoc a.messages b.messages c.messages i; statements = add_assoc a.statements b.statements c.statements i })
  where
    add_assoc : (x y z : ℕ) → (x + y) + z ≡ x + (y + z)
    add_assoc x y z = omega arith

nothing_together : (a : Findings) → a ≡ together nothing a
nothing_together a = (λ i. record { messages = a.messages; statements = zero_add a.statements i })
  where
    zero_add : (n : ℕ) → n ≡ 0 + n
    zero_add n = omega arith

-- what is shown goes on with that of the entries that are left
pub record GoesOn (options : Settings) (reading : List Listed) (i : ℕ) (found : Findings) : Type 0 where
  pub told : (rest : Findings) → IsShownFrom options reading i (drop i reading) rest → IsShown options reading (together found rest)

pub none_yet : (options : Settings) (reading : List Listed) → GoesOn options reading 0 nothing
none_yet options reading = record { told = λ rest shown. subst (IsShown options reading) (nothing_together rest) shown }

pub one_more : (options : Settings) (reading : List Listed) (i : ℕ) (listed : Listed) (before found now : Findings) → i < length reading → listed ≡ get_or reading i listed → now ≡ together before found → IsEntryShown options reading (record { 0 = i }) listed.path listed.entry found → GoesOn options reading i before → GoesOn options reading (i + 1) now
one_more options reading i listed before found now lt at grown shown goes = record {
  told = λ rest left.
      let split : drop i reading ≡ listed ∷ drop (i + 1) reading = drop_more reading i listed lt ∙ ap (λ l. l ∷ drop (i + 1) reading) (sym at) in
      let both : IsShownFrom options reading i (listed ∷ drop (i + 1) reading) (together found rest) = record { first = found; rest = rest; is = refl; of_first = shown; of_rest = left } in
      let here : IsShownFrom options reading i (drop i reading) (together found rest) = subst (λ entries. IsShownFrom options reading i entries (together found rest)) (sym split) both in
      subst (IsShown options reading) (sym (together_assoc before found rest) ∙ ap (λ all. together all rest) (sym grown)) (goes.told (together found rest) here);
}

-- what holds of all elements that are left holds of those behind the first
pub all_rest : {X : Type 0} (P : X → Type 0) (xs : List X) (i : ℕ) (x : X) → i < length xs → AllByRecursion P (drop i xs) → AllByRecursion P (drop (i + 1) xs)
all_rest P xs i x lt all = (subst (AllByRecursion P) (drop_more xs i x lt) all).1

-- behind the last entry this is all
pub all_told : (options : Settings) (reading : List Listed) (i : ℕ) (found : Findings) → length reading ≤ i → GoesOn options reading i found → IsShown options reading found
all_told options reading i found past goes =
    let none : drop i reading ≡ [] = drop_all i reading past in
    let left : IsShownFrom options reading i (drop i reading) nothing = subst (λ entries. IsShownFrom options reading i entries nothing) (sym none) refl in
    subst (IsShown options reading) (together_nothing found) (goes.told nothing left)

-- ---- there is one

one_tokens : (bytes : List ℕ) (tokens others : Tokenized) → IsTokenized bytes tokens → IsTokenized bytes others → tokens ≡ others
one_tokens bytes tokens others is was = every_from bytes (Ok tokens) is tt others was

-- a file is not both skipped and not
not_both : (tokens others : Tokenized) → tokens ≡ others → skips_file tokens ≡ true → skips_file others ≡ false → ⊥
not_both tokens others same skips goes = cc

source_only : (options : Settings) (reading : List Listed) (file : FileId) (bytes : List ℕ) (one other : Findings) → IsSourceShown options reading file bytes one → IsSourceShown options reading file bytes other → one ≡ other
source_only options reading file bytes one other (faulty p c f e) (faulty q d g h) =
    let same : (p ≡ q) × (c ≡ d) = every_fault_from bytes (Err (At p c)) tt f q d g in
    e ∙ (λ i. shown_of options (alone (syntax_error file (same.0 i) (reason_of (same.1 i))))) ∙ sym h
source_only options reading file bytes one other (faulty p c f e) (skipped tokens is skips h) = absurd (every_fault_from bytes (Ok tokens) is tt p c f)
source_only options reading file bytes one other (faulty p c f e) (formless tokens line cause is goes fault h) = absurd (every_fault_from bytes (Ok tokens) is tt p c f)
source_only options reading file bytes one other (faulty p c f e) (read tokens tree is goes spelled h) = absurd (every_fault_from bytes (Ok tokens) is tt p c f)
source_only options reading file bytes one other (skipped tokens is skips e) (faulty q d g h) = absurd (every_fault_from bytes (Ok tokens) is tt q d g)
source_only options reading file bytes one other (skipped tokens is skips e) (skipped others was jumps h) = e ∙ sym h
source_only options reading file bytes one other (skipped tokens is skips e) (formless others line cause was goes fault h) =
    absurd (not_both tokens others (one_tokens bytes tokens others is was) skips goes)
source_only options reading file bytes one other (skipped tokens is skips e) (read others tree was goes spelled h) =
    absurd (not_both tokens others (one_tokens bytes tokens others is was) skips goes)
source_only options reading file bytes one other (formless tokens line cause is goes fault e) (faulty q d g h) = absurd (every_fault_from bytes (Ok tokens) is tt q d g)
source_only options reading file bytes one other (formless tokens line cause is goes fault e) (skipped others was skips h) =
    absurd (not_both others tokens (one_tokens bytes others tokens was is) skips goes)
source_only options reading file bytes one other (formless tokens line cause is goes fault e) (formless others at why was went told h) =
    let same : tokens ≡ others = one_tokens bytes tokens others is was in
    let both : (line ≡ at) × (cause ≡ why) = fault-one others line at cause why (subst (λ t. IsFault t line cause) same fault) told in
    e ∙ (λ i. shown_of options (alone (syntax_error file (head_of (both.0 i)) (syntax_reason (both.1 i))))) ∙ sym h
source_only options reading file bytes one other (formless tokens line cause is goes fault e) (read others tree was went spelled h) =
    let same : tokens ≡ others = one_tokens bytes tokens others is was in
    absurd (tree-or-fault others tree line cause spelled (subst (λ t. IsFault t line cause) same fault))
source_only options reading file bytes one other (read tokens tree is goes spelled e) (faulty q d g h) = absurd (every_fault_from bytes (Ok tokens) is tt q d g)
source_only options reading file bytes one other (read tokens tree is goes spelled e) (skipped others was skips h) =
    absurd (not_both others tokens (one_tokens bytes others tokens was is) skips goes)
source_only options reading file bytes one other (read tokens tree is goes spelled e) (formless others at why was went told h) =
    let same : tokens ≡ others = one_tokens bytes tokens others is was in
    absurd (tree-or-fault others tree at why (subst (λ t. Spells t tree) same spelled) told)
source_only options reading file bytes one other (read tokens tree is goes spelled e) (read others wood was went grown h) =
    let same : tokens ≡ others = one_tokens bytes tokens others is was in
    let trees : tree ≡ wood = tree-one others tree wood (subst (λ t. Spells t tree) same spelled) grown in
    e ∙ (λ i. shown_by options (pragmas_of (same i) (trees i)).rows (found_in options reading file bytes (same i) (trees i))) ∙ sym h

entry_only : (options : Settings) (reading : List Listed) (file : FileId) (path : List ℕ) (listed : Entry) (one other : Findings) → IsEntryShown options reading file path listed one → IsEntryShown options reading file path listed other → one ≡ other
entry_only options reading file path (entry.Source bytes) one other e h = source_only options reading file bytes one other e h
entry_only options reading file path entry.Missing one other e h = e ∙ sym h
entry_only options reading file path entry.NoPackage one other e h = e ∙ sym h
entry_only options reading file path entry.Failed one other e h = e ∙ sym h
entry_only options reading file path entry.TooLarge one other e h = e ∙ sym h
entry_only options reading file path entry.TooMany one other e h = e ∙ sym h
entry_only options reading file path entry.TooDeep one other e h = e ∙ sym h
entry_only options reading file path entry.TooMuch one other e h = e ∙ sym h

shown_only : (options : Settings) (reading : List Listed) (number : ℕ) (left : List Listed) (one other : Findings) → IsShownFrom options reading number left one → IsShownFrom options reading number left other → one ≡ other
shown_only options reading number [] one other e h = e ∙ sym h
shown_only options reading number (listed ∷ left) one other e h =
    let first : e.first ≡ h.first = entry_only options reading (record { 0 = number }) listed.path listed.entry e.first h.first e.of_first h.of_first in
    let rest : e.rest ≡ h.rest = shown_only options reading (number + 1) left e.rest h.rest e.of_rest h.of_rest in
    e.is ∙ (λ i. together (first i) (rest i)) ∙ sym h.is

by_settings : (generate : Option ℕ) (settled : SettingsRead) (reading : List Listed) (one other : Findings) → IsShownBy generate settled reading one → IsShownBy generate settled reading other → one ≡ other
by_settings generate (Err fault) reading one other e h = e ∙ sym h
by_settings generate (Ok options) reading one other e h = shown_only options (linted generate reading) 0 (linted generate reading) one other e h

pub determined : (said : Said) (whole : Whole) → IsDetermined said whole
determined said whole = by_settings (generate_of said) (settings_of said whole.options) whole.list
