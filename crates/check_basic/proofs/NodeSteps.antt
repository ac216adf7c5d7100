-- One more node of a tree, and one node fewer of those that are left.
use Rattle.std.proofs.Common.{◌≡◌, ℕ, suc, ◌+◌, ◌<◌, ◌≤◌, cond, List, [], ◌∷◌, ◌++◌, map, sym, ap, ◌∙◌, append_assoc, arith}
use Rattle.std.specs.Prelude.{All, drop, length, take, slice_get}
use Rattle.std.specs.List.{flat_map, take_while, prefix_len}
use Rattle.std.proofs.lemmas.List.{append-nil, take-map, drop-map}
use Rattle.std.proofs.lemmas.Option.{slice_get_past}
use Rattle.std.proofs.lemmas.List.Elements.{filter-append}
use Rattle.std.proofs.lemmas.List.Sums.{sum_by-append, sum_by-cons}
use Rattle.lint_values.specs.declared.place.Pos.{Pos}
use Rattle.lint_messages.specs.declared.message.Message.{Message}
use Rattle.py_layout.specs.declared.logical.Logical.{Logical}
use Rattle.py_token.specs.Tokenized.{Tokenized}
use Rattle.tree_nodes.specs.Trees.{Tree, count_of}
use Rattle.lint_values.specs.declared.place.FileId.{FileId}
use Rattle.lint_values.specs.declared.place.NodeId.{NodeId}
use Rattle.tree_nodes.specs.Kept.{number_of}
use Rattle.scope_rules.specs.Kinds.{is_in_body}
use Rattle.scope_rules.specs.Nodes.{below, kind_of}
use Rattle.rule_nodes.specs.Kinds.{is_counted}
use Rattle.rule_nodes.proofs.Below.{below_more}
use Rattle.check_basic.specs.LogicalLines.{is_on_line, on_lines, begins_before, start_of, second_on_line, seconds, starts, cut, semicolon_message}
use Rattle.check_basic.specs.TreeRules.{count_among}
use Rattle.check_basic.specs.Nodes.{block_len}

-- ---- one more node

pub lines_more : (t : Tree) (n : ℕ) → on_lines t (below (n + 1)) ≡ on_lines t (below n) ++ on_lines t (n ∷ [])
lines_more t n = ap (on_lines t) (below_more n) ∙ filter-append (is_on_line t) (below n) (n ∷ [])

abbrev counts : Tree → ℕ → ℕ
counts t n = cond (is_counted (kind_of t n)) 1 0

count_more : (t : Tree) (n : ℕ) → count_among t (below (n + 1)) ≡ count_among t (below n) + counts t n
count_more t n =
    let last = sum_by-cons (counts t) n [] in
    omega (arith, ap (count_among t) (below_more n), sum_by-append (counts t) (below n) (n ∷ []), last)

pub counted_on : (t : Tree) (n count one : ℕ) → count ≡ count_among t (below n) → one ≡ cond (is_counted (kind_of t n)) 1 0 → count + one ≡ count_among t (below (n + 1))
counted_on t n count one so_far e = omega (arith, so_far, e, count_more t n)

-- ---- a list of what was found

-- what is found of the first of some nodes joins what was found
pub flat_on : {X : Type 0} (f : ℕ → List X) (rest tail : List NodeId) (kid : NodeId) (old new whole : List X) → rest ≡ kid ∷ tail → new ≡ old ++ f kid.0 → old ++ flat_map f (map number_of rest) ≡ whole → new ++ flat_map f (map number_of tail) ≡ whole
flat_on f rest tail kid old new whole is e told =
    let first = rw is at told in
    ap (λ xs. xs ++ flat_map f (map number_of tail)) e ∙ append_assoc old (f kid.0) (flat_map f (map number_of tail)) ∙ first

-- what holds of all holds of those behind the first
pub made_on : (t : Tree) (rest tail : List NodeId) (kid : NodeId) → rest ≡ kid ∷ tail → All (λ k. k.0 < count_of t) rest → All (λ k. k.0 < count_of t) tail
made_on t rest tail kid is made = λ k d lt. let all = rw is at made in all (suc k) d (omega arith)

-- what the first of some nodes adds to a block joins what was counted
pub block_on : (t : Tree) (rest tail : List NodeId) (kid : NodeId) (len n whole : ℕ) → rest ≡ kid ∷ tail → n ≡ cond (is_in_body (kind_of t kid.0)) 1 0 → len + block_len t (map number_of rest) ≡ whole → len + n + block_len t (map number_of tail) ≡ whole
block_on t rest tail kid len n whole is e told =
    let all = rw is at told in
    omega (arith, all, e, sum_by-cons (λ k. cond (is_in_body (kind_of t k)) 1 0) kid.0 (map number_of tail))

-- the statements and headers of the first of some lines
pub cut_on : (file : FileId) (t : Tree) (read : Tokenized) (lines tail : List Logical) (line : Logical) (start : Pos) (ns here behind : List ℕ) (old new whole : List Message)
    → lines ≡ line ∷ tail → start ≡ start_of read line → here ≡ take_while (begins_before t start) ns → behind ≡ drop (prefix_len (begins_before t start) ns) ns
    → new ≡ old ++ second_on_line file t here → old ++ seconds file t (cut t (starts read lines) ns) ≡ whole → new ++ seconds file t (cut t (starts read tail) behind) ≡ whole
cut_on file t read lines tail line start ns here behind old new whole is at front rest e told =
    let all = rw is at told in
    let there = rw (← at) at all in
    rw (e, front, rest, append_assoc) there

-- ---- parts of a list of numbers

pub front_is : (ns : List NodeId) (k : ℕ) → take k (map number_of ns) ≡ map number_of (take k ns)
front_is ns k = take-map number_of k ns

pub behind_is : (ns : List NodeId) (k : ℕ) → drop k (map number_of ns) ≡ map number_of (drop k ns)
behind_is ns k = drop-map number_of k ns

-- ---- a token that is not there

pub semicolon_past : (found : List Message) (file : FileId) (read : Tokenized) (i : ℕ) → length read.tokens ≤ i → found ≡ found ++ semicolon_message file read (slice_get read.tokens i)
semicolon_past found file read i le = sym (ap (λ token. found ++ semicolon_message file read token) (slice_get_past read.tokens i le) ∙ append-nil found)
