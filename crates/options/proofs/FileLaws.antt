-- The keys of an options file, one after another.
use Rattle.std.proofs.Common.{◌≡◌, ℕ, ◌<◌, ◌+◌, Bool, true, false, cond, ◌&&◌, ◌==◌, List, [], ◌∷◌, ◌++◌, length, drop, get_or, None, Some, Ok, Err, refl, ap, ◌∙◌, arith, append_assoc}
use Rattle.std.specs.List.{flat_map, list_all, zip}
use Rattle.std.specs.Str.{bytes_eq}
use Rattle.std.proofs.Common.{String, Global, string_bytes}
use Rattle.std.proofs.lemmas.List.{drop_more}
use Rattle.std.proofs.lemmas.Str.{IsUtf8-from_is_utf8, is_utf8-from_IsUtf8}
use Rattle.std.specs.Str.{IsUtf8, is_utf8}
use Rattle.toml.specs.Data.{Data, Members, member, as_table}
use Rattle.toml.specs.Parse.{parse_document}
use Rattle.toml.specs.View.{members_view, view}
use Rattle.toml.specs.declared.value.Value.{Value}
use Rattle.option_words.specs.declared.option_name.OptionName.{OptionName}
use Rattle.options.specs.declared.edits.Edit.{Edit}
use Rattle.options.specs.declared.usage.UsageFault.{UsageFault}
use Rattle.options.specs.declared.usage.UsageFault.TheVariants.{BadToml}
use Rattle.options.specs.BehindEdits.{behind_edits}
use Rattle.options.specs.File.{EditsRead, Key, dash, dashed, edits_by, edits_in, edits_of, file_edits, pylint_table, keys_below, keys_in, onto, tables_in}

-- a key is a name where each byte is, with `-` for `_`
pub same_bytes : (key name : List ℕ) → length key ≡ length name → list_all (λ p. dash p.0 == p.1) (zip key name) ≡ bytes_eq (dashed key) name
same_bytes [] [] same = refl
same_bytes [] (n ∷ ns) same = absurd (omega arith)
same_bytes (k ∷ ks) [] same = absurd (omega arith)
same_bytes (k ∷ ks) (n ∷ ns) same = ap (λ b. (dash k == n) && b) (same_bytes ks ns (omega arith))

-- the keys of one table more
keys_below_table : (option : OptionName) (key : List ℕ) (value : Data) (table : Members) (members : Members) (keys : List Key) → as_table value ≡ Some table → keys_below option (member key value members) ++ keys ≡ keys_in option table ++ (keys_below option members ++ keys)
keys_below_table option key value table members keys is =
    ap (λ t. flat_map (keys_in option) (onto t (tables_in members)) ++ keys) is
    ∙ append_assoc (keys_in option table) (keys_below option members) keys

-- a fault behind edits is a fault
behind_fault : (done : List Edit) (r : EditsRead) (fault : UsageFault) → behind_edits done r ≡ Err fault → r ≡ Err fault
behind_fault done (Ok edits) fault is = cc
behind_fault done (Err other) fault is = is

abbrev Entry : Type 0
Entry = String Global × Value

-- the first table that is left has a fault
pub below_fault : (option : OptionName) (start done : List Edit) (all : Members) (entries rest : List Entry) (k : String Global) (v : Value) (table : Members) (fault : UsageFault) (keys : List Key)
    → behind_edits start (edits_of (keys_below option all ++ keys)) ≡ behind_edits done (edits_of (keys_below option (members_view entries) ++ keys))
    → entries ≡ (k, v) ∷ rest
    → as_table (view v) ≡ Some table
    → edits_of (keys_in option table ++ (keys_below option (members_view rest) ++ keys)) ≡ Err fault
    → edits_of (keys_below option all ++ keys) ≡ Err fault
below_fault option start done all entries rest k v table fault keys so_far split is refused =
    behind_fault start (edits_of (keys_below option all ++ keys)) fault
    (so_far ∙ ap (behind_edits done) (ap (λ es. edits_of (keys_below option (members_view es) ++ keys)) split ∙ ap edits_of (keys_below_table option (string_bytes k) (view v) table (members_view rest) keys is) ∙ refused))

-- the first option that is left has a fault
pub options_fault : (f : OptionName → List Key) (options : List OptionName) (i : ℕ) (d : OptionName) (start done : List Edit) (fault : UsageFault)
    → behind_edits start (edits_of (flat_map f options)) ≡ behind_edits done (edits_of (flat_map f (drop i options)))
    → i < length options
    → ((keys : List Key) → edits_of (f (get_or options i d) ++ keys) ≡ Err fault)
    → edits_of (flat_map f options) ≡ Err fault
options_fault f options i d start done fault so_far below refused =
    behind_fault start (edits_of (flat_map f options)) fault
    (so_far ∙ ap (behind_edits done) (ap (λ os. edits_of (flat_map f os)) (drop_more options i d below) ∙ refused (flat_map f (drop (i + 1) options))))

-- what a document says
pub document_edits : (path bytes : List ℕ) (document : Members) → IsUtf8 bytes → parse_document bytes ≡ Some document → file_edits path bytes ≡ edits_in (pylint_table document)
document_edits path bytes document utf8 parsed = rw (is_utf8-from_IsUtf8 bytes utf8) (ap (edits_by path) parsed)

refused_by : (path bytes : List ℕ) (b : Bool) → is_utf8 bytes ≡ b → (IsUtf8 bytes → parse_document bytes ≡ None) → edits_by path (cond b (parse_document bytes) None) ≡ Err (BadToml path)
refused_by path bytes true e refused = ap (edits_by path) (refused (IsUtf8-from_is_utf8 bytes e))
refused_by path bytes false e refused = refl

-- what no document is
pub refused_edits : (path bytes : List ℕ) → (IsUtf8 bytes → parse_document bytes ≡ None) → file_edits path bytes ≡ Err (BadToml path)
refused_edits path bytes refused = refused_by path bytes (is_utf8 bytes) refl refused
