-- What rows make over numbers stands for what they make over trees.
use Rattle.std.proofs.Common.{◌≡◌, ℕ, zero, suc, ◌+◌, ◌-◌, ◌<◌, ◌≤◌, List, [], ◌∷◌, ◌++◌, Bool, true, false, if◌then◌else◌, length, get_or, map, Option, Some, None, refl, sym, ap, subst, ◌∙◌, arith}
use Rattle.std.specs.Prelude.{All, IfSome, option_map, max, replicate}
use Rattle.py_blocks.specs.Stack.{first_or, others, deepened, joined, taken}
use Rattle.std.proofs.lemmas.List.{map-append, length-map, length-append}
use Rattle.std.proofs.lemmas.List.Elements.{All-cons, All-append, All-tail, All-weaker, All-nil, All-replicate}
use Rattle.tree_nodes.specs.Trees.{Tree, pack}
use Rattle.tree_nodes.specs.declared.kind.Kind.TheVariants as kinds
use Rattle.tree_nodes.specs.Rows.{Row as Built, tree_of}
use Rattle.py_blocks.specs.Heads.{is_header, is_clause, is_definition}
use Rattle.py_blocks.specs.Rows.{Row, map_row}
use Rattle.py_blocks.specs.Statements.{Level, nothing, decorated, all_of, documented, either, suite, parts, end_of, headed, with_simple, with_clause, with_statement, with_line}
use Rattle.py_blocks.specs.Building.{map_level, IsMade, IsHeld, Keeps, IsNode, MakesClause, MakesStatement, Makes, Takes, IsModule, trees_in}

-- ---- what holds of both

module _ {X Y : Type 0} (f : X → Y) where
  map-if : (b : Bool) (xs ys : List X) → map f (if b then xs else ys) ≡ (if b then map f xs else map f ys)
  map-if true xs ys = refl
  map-if false xs ys = refl

  pub map-documented : (d : Option X) (xs : List X) → map f (documented d xs) ≡ documented (option_map f d) (map f xs)
  map-documented None xs = refl
  map-documented (Some d) [] = refl
  map-documented (Some d) (x ∷ xs) = refl

  map-either : (d e : Option X) → option_map f (either d e) ≡ either (option_map f d) (option_map f e)
  map-either None e = refl
  map-either (Some d) e = refl

  pub map-all_of : (level : Level X) → map f (all_of level) ≡ all_of (map_level f level)
  map-all_of level = map-append f level.clauses level.statements

  map-statements : (row : Row X) (block : Level X) → map f (row.body ++ all_of block) ≡ (map_row f row).body ++ all_of (map_level f block)
  map-statements row block = map-append f row.body (all_of block) ∙ ap (λ (ys : List Y). map f row.body ++ ys) (map-all_of block)

  map-suite : (row : Row X) (block : Level X) → map f (suite row block) ≡ suite (map_row f row) (map_level f block)
  map-suite row block =
      let e = map-statements row block in
      let d = map-documented (either row.docstring block.docstring) (row.body ++ all_of block) in
      let o = map-either row.docstring block.docstring in
      map-if (is_definition row.head) (documented (either row.docstring block.docstring) (row.body ++ all_of block)) (row.body ++ all_of block) ∙ rw (d, e, o) refl

  pub map-parts : (row : Row X) (block : Level X) → map f (parts row block) ≡ parts (map_row f row) (map_level f block)
  map-parts row block = map-append f row.nodes (suite row block) ∙ ap (λ (ys : List Y). map f row.nodes ++ ys) (map-suite row block)

-- ---- numbers that were made

module _ (count : ℕ) where
  if-held : (b : Bool) (xs ys : List ℕ) → All (λ n. n < count) xs → All (λ n. n < count) ys → All (λ n. n < count) (if b then xs else ys)
  if-held true xs ys h k = h
  if-held false xs ys h k = k

  pub documented-held : (d : Option ℕ) (xs : List ℕ) → IfSome d (λ n. n < count) → All (λ n. n < count) xs → All (λ n. n < count) (documented d xs)
  documented-held None xs h k = k
  documented-held (Some d) [] h k = All-cons (λ n. n < count) d [] h k
  documented-held (Some d) (x ∷ xs) h k = All-cons (λ n. n < count) d xs h (All-tail (λ n. n < count) x xs k)

  either-held : (d e : Option ℕ) → IfSome d (λ n. n < count) → IfSome e (λ n. n < count) → IfSome (either d e) (λ n. n < count)
  either-held None e h k = k
  either-held (Some d) e h k = h

  pub all_of-held : (level : Level ℕ) → IsHeld count level → All (λ n. n < count) (all_of level)
  all_of-held level h = All-append (λ n. n < count) level.clauses level.statements h.clauses h.statements

  pub parts-held : (row : Row ℕ) (block : Level ℕ) → IsMade count row → IsHeld count block → All (λ n. n < count) (parts row block)
  parts-held row block h k =
      let all = All-append (λ n. n < count) row.body (all_of block) h.body (all_of-held block k) in
      let d = documented-held (either row.docstring block.docstring) (row.body ++ all_of block) (either-held row.docstring block.docstring h.docstring k.docstring) all in
      All-append (λ n. n < count) row.nodes (suite row block) h.nodes (if-held (is_definition row.head) (documented (either row.docstring block.docstring) (row.body ++ all_of block)) (row.body ++ all_of block) d all)

  pub some-more : (more : ℕ) → count ≤ more → (d : Option ℕ) → IfSome d (λ n. n < count) → IfSome d (λ n. n < more)
  some-more more l None h = tt
  some-more more l (Some d) h = omega arith

  pub held-more : (more : ℕ) → count ≤ more → (level : Level ℕ) → IsHeld count level → IsHeld more level
  held-more more l level h = record {
    docstring = some-more more l level.docstring h.docstring;
    clauses = All-weaker (λ n. n < count) (λ n. n < more) (λ n k. omega arith) level.clauses h.clauses;
    statements = All-weaker (λ n. n < count) (λ n. n < more) (λ n k. omega arith) level.statements h.statements;
  }

-- ---- trees that stay

module _ (old new : List Built) (keeps : Keeps old new) where
  pub map-kept : (xs : List ℕ) → All (λ n. n < length old) xs → map (tree_of new) xs ≡ map (tree_of old) xs
  map-kept [] h = refl
  map-kept (x ∷ xs) h =
      let first : tree_of new x ≡ tree_of old x = keeps.same x (h 0 x (omega arith)) in
      let others = map-kept xs (All-tail (λ n. n < length old) x xs h) in
      rw (first, others) refl

  pub option-kept : (d : Option ℕ) → IfSome d (λ n. n < length old) → option_map (tree_of new) d ≡ option_map (tree_of old) d
  option-kept None h = refl
  option-kept (Some d) h = ap (λ (t : Tree). Some t) (keeps.same d h)

  pub level-kept : (level : Level ℕ) → IsHeld (length old) level → map_level (tree_of new) level ≡ map_level (tree_of old) level
  level-kept level h =
      let d = option-kept level.docstring h.docstring in
      let c = map-kept level.clauses h.clauses in
      let s = map-kept level.statements h.statements in
      rw (d, c, s) refl

  pub levels-kept : (levels : List (Level ℕ)) → All (IsHeld (length old)) levels → trees_in new levels ≡ trees_in old levels
  levels-kept [] h = refl
  levels-kept (level ∷ levels) h =
      let first = level-kept level (h 0 level (omega arith)) in
      let others = levels-kept levels (All-tail (IsHeld (length old)) level levels h) in
      rw (first, others) refl

-- ---- what each kind of row makes

pub keeps-self : (old : List Built) → Keeps old old
keeps-self old = record { more = omega arith; same = λ n l. refl }

pub simple-makes : (old : List Built) (ds : List ℕ) (raw : Row ℕ) (block behind made : Level ℕ) → IsMade (length old) (decorated ds raw) → IsHeld (length old) behind → is_header raw.head ≡ false
    → made ≡ with_simple raw block behind → Makes old old (decorated ds raw) block behind made
unfolding with_line
simple-makes old ds raw block behind made h k e f = subst (λ (m : Level ℕ). Makes old old (decorated ds raw) block behind m) (sym f) (record {
  keeps = keeps-self old;
  held = record {
    docstring = h.docstring;
    clauses = k.clauses;
    statements = All-append (λ n. n < length old) raw.body behind.statements h.body k.statements;
  };
  trees = let s = map-append (tree_of old) raw.body behind.statements in rw (e, s) refl;
})

pub clause-makes : (old new : List Built) (ds : List ℕ) (raw : Row ℕ) (kids : List ℕ) (block behind made : Level ℕ) → IsHeld (length old) behind → is_header raw.head ≡ true
    → is_clause raw.head ≡ true → kids ≡ parts (decorated ds raw) block → MakesClause old new raw kids block behind made → Makes old new (decorated ds raw) block behind made
unfolding with_line
clause-makes old new ds raw kids block behind made k e f g m =
    let row = decorated ds raw in
    let keeps = m.is_node.keeps in
    let later = held-more (length old) (length new) keeps.more behind k in
    let clauses : map (tree_of new) behind.clauses ≡ map (tree_of old) behind.clauses = map-kept old new keeps behind.clauses k.clauses in
    let statements : map (tree_of new) behind.statements ≡ map (tree_of old) behind.statements = map-kept old new keeps behind.statements k.statements in
    let node : tree_of new m.node ≡ headed (map_row (tree_of old) row) (end_of row block) (parts (map_row (tree_of old) row) (map_level (tree_of old) block)) =
    m.is_node.tree ∙ ap (headed (map_row (tree_of old) row) (end_of row block)) (ap (map (tree_of old)) g ∙ map-parts (tree_of old) row block) in
    subst (λ (l : Level ℕ). Makes old new row block behind l) (sym m.made_is) (record {
      keeps = keeps;
      held = record { docstring = tt; clauses = All-cons (λ n. n < length new) m.node behind.clauses m.is_node.number later.clauses; statements = later.statements };
      trees = rw (e, f, clauses, statements, node) refl;
    })

pub statement-makes : (old new : List Built) (ds : List ℕ) (raw : Row ℕ) (kids : List ℕ) (block behind made : Level ℕ) → IsHeld (length old) behind → is_header raw.head ≡ true
    → is_clause raw.head ≡ false → kids ≡ parts (decorated ds raw) block → MakesStatement old new raw kids block behind made → Makes old new (decorated ds raw) block behind made
unfolding with_line
statement-makes old new ds raw kids block behind made k e f g m =
    let row = decorated ds raw in
    let keeps = m.is_node.keeps in
    let later = held-more (length old) (length new) keeps.more behind k in
    let statements : map (tree_of new) behind.statements ≡ map (tree_of old) behind.statements = map-kept old new keeps behind.statements k.statements in
    let kids_are : map (tree_of old) (kids ++ behind.clauses) ≡ parts (map_row (tree_of old) row) (map_level (tree_of old) block) ++ map (tree_of old) behind.clauses =
    map-append (tree_of old) kids behind.clauses ∙ ap (λ (ts : List Tree). ts ++ map (tree_of old) behind.clauses) (ap (map (tree_of old)) g ∙ map-parts (tree_of old) row block) in
    let node : tree_of new m.node ≡ headed (map_row (tree_of old) row) (max (end_of row block) behind.reach) (parts (map_row (tree_of old) row) (map_level (tree_of old) block) ++ map (tree_of old) behind.clauses) =
    m.is_node.tree ∙ ap (headed (map_row (tree_of old) row) (max (end_of row block) behind.reach)) kids_are in
    subst (λ (l : Level ℕ). Makes old new row block behind l) (sym m.made_is) (record {
      keeps = keeps;
      held = record { docstring = tt; clauses = All-nil (λ n. n < length new); statements = All-cons (λ n. n < length new) m.node behind.statements m.is_node.number later.statements };
      trees = rw (e, f, statements, node) refl;
    })

-- ---- the levels

module _ (n : ℕ) where
  nothing-held : IsHeld n nothing
  nothing-held = record { docstring = tt; clauses = All-nil (λ k. k < n); statements = All-nil (λ k. k < n) }

  pub deepened-held : (count : ℕ) (levels : List (Level ℕ)) → All (IsHeld n) levels → All (IsHeld n) (deepened nothing count levels)
  deepened-held count levels h =
      All-append (IsHeld n) (replicate (count - length levels) nothing) levels (All-replicate (IsHeld n) (count - length levels) nothing nothing-held) h

  pub first-held : (levels : List (Level ℕ)) → All (IsHeld n) levels → IsHeld n (first_or nothing levels)
  first-held [] h = nothing-held
  first-held (level ∷ levels) h = h 0 level (omega arith)

  pub others-held : (levels : List (Level ℕ)) → All (IsHeld n) levels → All (IsHeld n) (others levels)
  others-held [] h = h
  others-held (level ∷ levels) h = All-tail (IsHeld n) level levels h

  pub held-more-all : (more : ℕ) → n ≤ more → (levels : List (Level ℕ)) → All (IsHeld n) levels → All (IsHeld more) levels
  held-more-all more l levels h = All-weaker (IsHeld n) (IsHeld more) (held-more n more l) levels h

-- what a function of levels that keeps nothing does
module _ {P Q : Type 0} (f : P → Q) (none : P) (other : Q) (same : f none ≡ other) where
  map-replicate : (k : ℕ) → map f (replicate k none) ≡ replicate k other
  map-replicate zero = refl
  map-replicate (suc k) = let e = map-replicate k in rw (same, e) refl

  pub map-deepened : (count : ℕ) (ps : List P) → map f (deepened none count ps) ≡ deepened other count (map f ps)
  map-deepened count ps =
      map-append f (replicate (count - length ps) none) ps ∙ ap (λ (qs : List Q). qs ++ map f ps) (map-replicate (count - length ps))
      ∙ ap (λ (k : ℕ). replicate (count - k) other ++ map f ps) (sym (length-map ps f))

  pub map-first : (ps : List P) → f (first_or none ps) ≡ first_or other (map f ps)
  map-first [] = same
  map-first (p ∷ ps) = refl

  pub map-others : (ps : List P) → map f (others ps) ≡ others (map f ps)
  map-others [] = refl
  map-others (p ∷ ps) = refl

-- a row is taken as its level, the block and what is behind say
pub takes : (old new : List Built) (row : Row ℕ) (levels now : List (Level ℕ)) (block behind made : Level ℕ) (rest last : List (Level ℕ)) → All (IsHeld (length old)) levels
    → block ≡ first_or nothing (deepened nothing (row.level + 2) levels) → rest ≡ others (deepened nothing (row.level + 2) levels) → behind ≡ first_or nothing rest → last ≡ others rest
    → Makes old new row block behind made → now ≡ made ∷ last → Takes old new row levels now
takes old new row levels now block behind made rest last h e1 e2 e3 e4 m e5 =
    let deep = deepened nothing (row.level + 2) levels in
    let f = map_level (tree_of old) in
    let n = length old in
    let last_held : All (IsHeld n) last = subst (λ (ls : List (Level ℕ)). All (IsHeld n) ls) (sym (e4 ∙ ap others e2)) (others-held n (others deep) (others-held n deep (deepened-held n (row.level + 2) levels h))) in
    let deep_trees : map f deep ≡ deepened nothing (row.level + 2) (trees_in old levels) = map-deepened f nothing nothing refl (row.level + 2) levels in
    let block_tree : f block ≡ first_or nothing (deepened nothing (row.level + 2) (trees_in old levels)) = ap f e1 ∙ map-first f nothing nothing refl deep ∙ ap (first_or nothing) deep_trees in
    let rest_trees : map f rest ≡ others (deepened nothing (row.level + 2) (trees_in old levels)) = ap (map f) e2 ∙ map-others f nothing nothing refl deep ∙ ap others deep_trees in
    let behind_tree : f behind ≡ first_or nothing (others (deepened nothing (row.level + 2) (trees_in old levels))) = ap f e3 ∙ map-first f nothing nothing refl rest ∙ ap (first_or nothing) rest_trees in
    let last_trees : trees_in old last ≡ others (others (deepened nothing (row.level + 2) (trees_in old levels))) = ap (map f) e4 ∙ map-others f nothing nothing refl rest ∙ ap others rest_trees in
    let kept = levels-kept old new m.keeps last last_held in
    subst (λ (ls : List (Level ℕ)). Takes old new row levels ls) (sym e5) (record {
      keeps = m.keeps;
      held = All-cons (IsHeld (length new)) made last m.held (held-more-all n (length new) m.keeps.more last last_held);
      trees = rw (m.trees, kept, last_trees, block_tree, behind_tree) refl;
    })

-- the kids of the root
pub module-held : (n : ℕ) (level : Level ℕ) → IsHeld n level → All (λ k. k < n) (documented level.docstring (all_of level))
module-held n level h = documented-held n level.docstring (all_of level) h.docstring (all_of-held n level h)

pub module-made : (old new : List Built) (level : Level ℕ) (root end_line : ℕ) (kids : List ℕ) → root < length new → end_line ≡ max 1 level.last → kids ≡ documented level.docstring (all_of level)
    → tree_of new root ≡ record { node = record { kind = kinds.Module; pos = record { line = 1; col = 0 }; end_line = end_line; name = None }; kids = pack (map (tree_of old) kids) } → IsModule old new level root
module-made old new level root end_line kids l e f t =
    let a : map (tree_of old) kids ≡ documented (option_map (tree_of old) level.docstring) (all_of (map_level (tree_of old) level)) =
    ap (map (tree_of old)) f ∙ map-documented (tree_of old) level.docstring (all_of level) ∙ ap (documented (option_map (tree_of old) level.docstring)) (map-all_of (tree_of old) level) in
    record { number = l; tree = t ∙ rw (a, e) refl }

-- the number of a row that was added
pub number-new : (old new : List Built) (row : Built) (n : ℕ) → n ≡ length old → new ≡ old ++ row ∷ [] → n < length new
number-new old new row n e f = let g : length new ≡ length old + 1 = ap length f ∙ length-append old (row ∷ []) in omega arith
