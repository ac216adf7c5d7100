-- What the tree of files in memory has at a path.
use Rattle.std.proofs.Common.{◌≡◌, ℕ, Bool, true, false, cond, List, [], ◌∷◌, Option, None, Some, refl, sym, ap, subst, ◌∙◌}
use Rattle.std.specs.Option.{option_map, ForSome}
use Rattle.std.specs.Prelude.{map}
use Rattle.std.specs.Str.{bytes_eq}
use Rattle.std.specs.Ordering.{nat_cmp}
use Rattle.std.specs.Cmp.Lexicographic.{slice_cmp, nat_list_cmp_total}
use Rattle.std.specs.BTreeMap as tree
use Rattle.std.specs.BTreeMap.{BTreeMap}
use Rattle.std.specs.FinMap.{get, find, entries, keys, from_entries, get-from_entries, get-entries}
use Rattle.std.proofs.lemmas.Map.Text.{is_eq-slice_cmp}
use Rattle.std.proofs.lemmas.Slice.Eq.{bytes_eq-Decides}
use Rattle.lint_outside.specs.FileTree.{FileTree}
use Rattle.lint_outside.specs.Held.{kind_of, content_of, listing_of}
use Rattle.lint_outside.specs.MemFiles.{PlacedMap, as_held, held_entry, names_in, tree_of, placed_kind, placed_content, placed_names}
use Rattle.lint_outside.specs.declared.outside.Kind.{Kind}
use Rattle.lint_outside.specs.declared.outside.Kind.TheVariants as kind
use Rattle.lint_outside.specs.declared.outside.Content.{Content}
use Rattle.lint_outside.specs.declared.outside.Listing.{Listing}
use Rattle.lint_outside.specs.declared.mem_files.Placed.{Placed}
use Rattle.lint_outside.specs.declared.mem_files.Placed.TheVariants.{File, Folder}
use Rattle.lint_outside.proofs.MapOf.{get-map_of, keys-map_of}

found_step : (paths : List (List ℕ)) (path : List ℕ) (entry : List ℕ × Placed) (t : Bool) (rest : Option Placed) → bytes_eq path entry.0 ≡ t → cond t (Some (as_held paths entry.0 entry.1)) (option_map (as_held paths path) rest) ≡ option_map (as_held paths path) (cond t (Some entry.1) rest)
found_step paths path entry true rest e = ap (λ p. Some (as_held paths p entry.1)) (sym ((bytes_eq-Decides path entry.0).0 e))
found_step paths path entry false rest e = refl

find-held : (paths : List (List ℕ)) (es : List (List ℕ × Placed)) (path : List ℕ) → find (slice_cmp nat_cmp) path (map (held_entry paths) es) ≡ option_map (as_held paths path) (find (slice_cmp nat_cmp) path es)
find-held paths [] path = refl
find-held paths (entry ∷ es) path =
    ap (λ t. cond t (Some (as_held paths entry.0 entry.1)) (find (slice_cmp nat_cmp) path (map (held_entry paths) es))) (is_eq-slice_cmp path entry.0)
    ∙ ap (cond (bytes_eq path entry.0) (Some (as_held paths entry.0 entry.1))) (find-held paths es path)
    ∙ found_step paths path entry (bytes_eq path entry.0) (find (slice_cmp nat_cmp) path es) refl
    ∙ ap (λ t. option_map (as_held paths path) (cond t (Some entry.1) (find (slice_cmp nat_cmp) path es))) (sym (is_eq-slice_cmp path entry.0))

-- the tree has at a path what was put there
pub get-tree_of : (placed : PlacedMap) (path : List ℕ) → get (tree_of placed) path ≡ option_map (as_held (keys placed) path) (get placed path)
get-tree_of placed path =
    get-from_entries nat_list_cmp_total (map (held_entry (keys placed)) (entries placed)) path
    ∙ find-held (keys placed) (entries placed) path
    ∙ ap (option_map (as_held (keys placed) path)) (sym (get-entries placed path))

kind-as_held : (paths : List (List ℕ)) (path : List ℕ) (placed : Option Placed) → placed_kind placed ≡ kind_of (option_map (as_held paths path) placed)
kind-as_held paths path None = refl
kind-as_held paths path (Some (File bytes)) = refl
kind-as_held paths path (Some Folder) = refl

content-as_held : (most : ℕ) (paths : List (List ℕ)) (path : List ℕ) (placed : Option Placed) → placed_content most placed ≡ content_of most (option_map (as_held paths path) placed)
content-as_held most paths path None = refl
content-as_held most paths path (Some (File bytes)) = refl
content-as_held most paths path (Some Folder) = refl

names-as_held : (most : ℕ) (paths : List (List ℕ)) (path : List ℕ) (placed : Option Placed) → placed_kind placed ≡ kind.Folder → placed_names most (names_in path paths) ≡ listing_of most (option_map (as_held paths path) placed)
names-as_held most paths path None folder = cc
names-as_held most paths path (Some (File bytes)) folder = cc
names-as_held most paths path (Some Folder) folder = refl

-- a fact about the tree, for each tree that is told
told : (P : FileTree → Type 0) (held : FileTree) → P held → ForSome (Some held) P
told P held fact other e = let same : held ≡ other = cc in subst P same fact

module _ (files : PlacedMap) (inside : BTreeMap (List ℕ) Placed) (view : from_entries inside.entries ≡ files) (path : List ℕ) where
  abbrev found : Option Placed
  found = tree.get (slice_cmp nat_cmp) inside path

  abbrev paths : List (List ℕ)
  paths = keys files

  in_tree : option_map (as_held paths path) found ≡ get (tree_of files) path
  in_tree = ap (option_map (as_held paths path)) (sym (get-map_of inside path) ∙ ap (λ f. get f path) view) ∙ sym (get-tree_of files path)

  pub look_answer : (answer : Kind) → answer ≡ placed_kind found → ForSome (Some (tree_of files)) (λ held. answer ≡ kind_of (get held path))
  look_answer answer e = told (λ held. answer ≡ kind_of (get held path)) (tree_of files) (e ∙ kind-as_held paths path found ∙ ap kind_of in_tree)

  pub read_answer : (most : ℕ) (answer : Content) → answer ≡ placed_content most found → ForSome (Some (tree_of files)) (λ held. answer ≡ content_of most (get held path))
  read_answer most answer e = told (λ held. answer ≡ content_of most (get held path)) (tree_of files) (e ∙ content-as_held most paths path found ∙ ap (content_of most) in_tree)

  pub names_answer : (most : ℕ) (answer : Listing) → tree.IsOrdered (slice_cmp nat_cmp) inside → ForSome (Some (tree_of files)) (λ held. kind_of (get held path) ≡ kind.Folder) → answer ≡ placed_names most (names_in path (tree.keys inside)) → ForSome (Some (tree_of files)) (λ held. answer ≡ listing_of most (get held path))
  names_answer most answer rising folder e =
      told (λ held. answer ≡ listing_of most (get held path)) (tree_of files)
      (e
      ∙ ap (λ ks. placed_names most (names_in path ks)) (sym (keys-map_of inside rising) ∙ ap keys view)
      ∙ names-as_held most paths path found (kind-as_held paths path found ∙ ap kind_of in_tree ∙ folder (tree_of files) refl)
      ∙ ap (listing_of most) in_tree)
