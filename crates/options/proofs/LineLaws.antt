-- What words say behind what was said before.
use Rattle.std.proofs.Common.{◌≡◌, ℕ, ◌<◌, ◌≤◌, length, arith, get_or, take, take_all, drop, ◌-◌, List, [], ◌∷◌, ◌++◌, None, Ok, Err, refl, sym, ap, ◌∙◌, append-nil}
use Rattle.option_words.specs.declared.option_name.OptionName.{OptionName}
use Rattle.options.specs.declared.edits.Edit.{Edit}
use Rattle.options.specs.declared.usage.UsageFault.{UsageFault}
use Rattle.options.specs.declared.words.Said.{Said}
use Rattle.options.specs.Behind.{behind}
use Rattle.options.specs.Lines.{Reading, awaiting, by_itself, by_last, by_next, said_by, with_value}
use Rattle.options.specs.Words.{Form, Attached, form_of}

abbrev nothing : Said
nothing = record { edits = []; files = [] }

abbrev read : List Edit → List (List ℕ) → Reading
read edits files = Ok (record { edits = edits; files = files })

said_same : (d e : List Edit) (f g : List (List ℕ)) → d ≡ e → f ≡ g → read d f ≡ read e g
said_same d e f g p q = cc

-- a word that says all by itself
said_alone : (word : List ℕ) (words : List (List ℕ)) (form : Form) → form_of word ≡ form → awaiting form ≡ None → said_by (word ∷ words) ≡ by_itself form word words (said_by words)
said_alone word [] form is none =
    ap (λ f. by_last (awaiting f) word) is
    ∙ ap (λ o. by_last o word) none
    ∙ ap (λ f. by_itself f word [] (Ok nothing)) is
said_alone word (next ∷ words) form is none =
    ap (λ f. by_next (awaiting f) word next words (said_by (next ∷ words)) (said_by words)) is
    ∙ ap (λ o. by_next o word next words (said_by (next ∷ words)) (said_by words)) none
    ∙ ap (λ f. by_itself f word (next ∷ words) (said_by (next ∷ words))) is

-- an option with its value in the same word
pub said_attached : (word value : List ℕ) (words : List (List ℕ)) (option : OptionName) → form_of word ≡ Attached option value → said_by (word ∷ words) ≡ with_value option value word (said_by words)
said_attached word value words option is = said_alone word words (Attached option value) is refl

-- nothing was said before
pub behind_start : (said : Said) (r : Reading) → said.edits ≡ [] → said.files ≡ [] → r ≡ behind said r
behind_start said (Ok more) edits files =
    said_same more.edits (said.edits ++ more.edits) more.files (said.files ++ more.files)
    (ap (λ es. es ++ more.edits) (sym edits)) (ap (λ fs. fs ++ more.files) (sym files))
behind_start said (Err fault) edits files = refl

-- a fault in what is left is the fault of all
pub all_refused : (words rest : List (List ℕ)) (said : Said) (fault : UsageFault) → said_by words ≡ behind said (said_by rest) → said_by rest ≡ Err fault → said_by words ≡ Err fault
all_refused words rest said fault so_far is = so_far ∙ ap (behind said) is

none_left : (words : List (List ℕ)) → length words < 1 → words ≡ []
none_left [] short = refl
none_left (word ∷ words) short = absurd (omega arith)

-- where nothing is left, all was said
pub all_said : (words rest : List (List ℕ)) (said : Said) → length rest < 1 → said_by words ≡ behind said (said_by rest) → said_by words ≡ Ok said
all_said words rest said short so_far =
    so_far ∙ ap (λ r. behind said (said_by r)) (none_left rest short)
    ∙ said_same (said.edits ++ []) said.edits (said.files ++ []) said.files (append-nil said.edits) (append-nil said.files)

-- words are the first and those behind it
pub first_split : (words : List (List ℕ)) (word : List ℕ) → 1 ≤ length words → word ≡ get_or words 0 word → words ≡ word ∷ take (length words - 1) (drop 1 words)
first_split [] word some is = absurd (omega arith)
first_split (w ∷ ws) word some is =
    let rest : take (length (w ∷ ws) - 1) ws ≡ ws = take_all (length (w ∷ ws) - 1) ws (omega arith) in
    cc
