-- One more node adds to the size of the function that it belongs to, and to no other.
use Rattle.std.proofs.Common.{◌≡◌, ℕ, zero, suc, ◌+◌, ◌*◌, ◌<◌, ◌≤◌, ◌^◌, Bool, true, false, cond, eqb, List, length, get_or, set, refl, sym, ap, subst, ◌∙◌, arith, Option, Some, None, eq-eqb}
use Rattle.std.specs.Prelude.{sum_by}
use Rattle.std.proofs.lemmas.Bool.{eqb-true}
use Rattle.std.proofs.lemmas.List.{length-set, get_or-set_same, get_or-set_other}
use Rattle.std.proofs.lemmas.List.Sums.{sum_by_push}
use Rattle.tree_nodes.specs.declared.kind.Kind.{Kind}
use Rattle.tree_nodes.specs.Trees.{Tree, count_of}
use Rattle.scope_rules.specs.Nodes.{below, kind_of, is_number}
use Rattle.flow_rules.specs.declared.size.Size.{Size}
use Rattle.flow_rules.specs.declared.size.Size.TheVariants as sizes
use Rattle.rule_nodes.specs.Kinds.{is_counted}
use Rattle.flow_rules.specs.Kinds.{is_return, is_branch, is_finally}
use Rattle.rule_nodes.specs.Outwards.{owner_of}
use Rattle.flow_rules.specs.Sizes.{one_if, part_of, part_in}
use Rattle.flow_rules.specs.Tables.{total_up_to, AreTotalled, AreTotals, with_part}
use Rattle.rule_nodes.proofs.Below.{below_more}

-- ---- a part is small

one-few : (b : Bool) → one_if b ≤ 2
one-few true = omega arith
one-few false = omega arith

branches-few : (b c : Bool) → cond b 2 (one_if c) ≤ 2
branches-few true c = omega arith
branches-few false c = one-few c

pub part_few : (size : Size) (kind : Kind) → part_of size kind ≤ 2
part_few sizes.Returns kind = one-few (is_return kind)
part_few sizes.Branches kind = branches-few (is_finally kind) (is_branch kind)
part_few sizes.Statements kind = one-few (is_counted kind)

cond-few : (b : Bool) (n : ℕ) → n ≤ 2 → cond b n 0 ≤ 2
cond-few true n le = le
cond-few false n le = omega arith

-- ---- one more node

pub up_to-more : (size : Size) (t : Tree) (n d : ℕ) → total_up_to size t (n + 1) d ≡ total_up_to size t n d + part_in size t d n
up_to-more size t n d = ap (sum_by (part_in size t d)) (below_more n) ∙ sum_by_push (part_in size t d) (below n) n

up-to-few : (size : Size) (t : Tree) (n d : ℕ) → total_up_to size t n d ≤ 2 * n
up-to-few size t zero d = omega arith
up-to-few size t (suc n) d =
    let more : total_up_to size t (suc n) d ≡ total_up_to size t n d + part_in size t d n = sum_by_push (part_in size t d) (below n) n in
    let here : part_in size t d n ≤ 2 = cond-few (is_number (owner_of t n) d) (part_of size (kind_of t n)) (part_few size (kind_of t n)) in
    let so_far = up-to-few size t n d in
    omega arith

-- a size stays small
pub total_few : (size : Size) (t : Tree) (n d : ℕ) (totals : List ℕ) → d < count_of t → n < 2 ^ 32 → AreTotalled size t n totals → get_or totals d 0 + part_of size (kind_of t n) < 2 ^ 64
total_few size t n d totals made few h =
    let here = h.totalled d made in
    let so_far = up-to-few size t n d in
    let part = part_few size (kind_of t n) in
    omega arith

clash : true ≡ false → ⊥
clash e = cc

-- no function or class is above the node
none-more : (size : Size) (t : Tree) (n : ℕ) (totals : List ℕ) → owner_of t n ≡ None → AreTotalled size t n totals → AreTotalled size t (n + 1) totals
none-more size t n totals e h = record {
  all = h.all;
  totalled = λ d made.
      let nothing : part_in size t d n ≡ 0 = ap (λ (o : Option ℕ). cond (is_number o d) (part_of size (kind_of t n)) 0) e in
      omega (arith, h.totalled d made, up_to-more size t n d, nothing);
}

some-more : (size : Size) (t : Tree) (n p : ℕ) (totals : List ℕ) → owner_of t n ≡ Some p → p < count_of t → AreTotalled size t n totals → AreTotalled size t (n + 1) (set totals p (get_or totals p 0 + part_of size (kind_of t n)))
some-more size t n p totals e within h = record { all = length-set totals p (get_or totals p 0 + part_of size (kind_of t n)) ∙ h.all; totalled = λ d made. by_test d made (eqb p d) refl }
  where
    part : ℕ
    part = part_of size (kind_of t n)

    told : (d : ℕ) (b : Bool) → eqb p d ≡ b → part_in size t d n ≡ cond b (part_of size (kind_of t n)) 0
    told d b is = ap (λ (o : Option ℕ). cond (is_number o d) (part_of size (kind_of t n)) 0) e ∙ ap (λ (c : Bool). cond c (part_of size (kind_of t n)) 0) is

    here : get_or (set totals p (get_or totals p 0 + part_of size (kind_of t n))) p 0 ≡ total_up_to size t (n + 1) p
    here =
        let all = h.all in
        get_or-set_same totals p (get_or totals p 0 + part_of size (kind_of t n)) 0 (omega arith) ∙ ap (λ (k : ℕ). k + part_of size (kind_of t n)) (h.totalled p within)
        ∙ ap (λ (k : ℕ). total_up_to size t n p + k) (sym (told p true (eq-eqb p p refl))) ∙ sym (up_to-more size t n p)

    by_test : (d : ℕ) → d < count_of t → (b : Bool) → eqb p d ≡ b → get_or (set totals p (get_or totals p 0 + part_of size (kind_of t n))) d 0 ≡ total_up_to size t (n + 1) d
    by_test d made true is = subst (λ (k : ℕ). get_or (set totals p (get_or totals p 0 + part_of size (kind_of t n))) k 0 ≡ total_up_to size t (n + 1) k) (eqb-true p d is) here
    by_test d made false is =
        let nothing = told d false is in
        let more = up_to-more size t n d in
        let before = h.totalled d made in
        get_or-set_other totals p d (get_or totals p 0 + part_of size (kind_of t n)) 0 (λ same. clash (sym (eq-eqb p d (sym same)) ∙ is)) ∙ omega arith

-- a node adds its part
pub totalled_more : (size : Size) (t : Tree) (n : ℕ) (owner : Option ℕ) (part : ℕ) (old new : List ℕ) → owner ≡ owner_of t n → ((d : ℕ) → owner ≡ Some d → d < count_of t) → part ≡ part_of size (kind_of t n) → new ≡ with_part old owner part → AreTotalled size t n old
    → AreTotalled size t (n + 1) new
totalled_more size t n None part old new is made e after h = subst (λ (xs : List ℕ). AreTotalled size t (n + 1) xs) (sym after) (none-more size t n old (sym is) h)
totalled_more size t n (Some p) part old new is made e after h =
    subst (λ (xs : List ℕ). AreTotalled size t (n + 1) xs) (sym (after ∙ ap (λ (k : ℕ). set old p (get_or old p 0 + k)) e)) (some-more size t n p old (sym is) (made p refl) h)

-- nothing was added yet
pub totalled_none : (size : Size) (t : Tree) (totals : List ℕ) → length totals ≡ count_of t → ((d : ℕ) → d < count_of t → get_or totals d 0 ≡ 0) → AreTotalled size t 0 totals
totalled_none size t totals all zeros = record { all = all; totalled = zeros }

-- all nodes were asked
pub totalled_all : (size : Size) (t : Tree) (n : ℕ) (totals : List ℕ) → n ≡ count_of t → AreTotalled size t n totals → AreTotals size t totals
totalled_all size t n totals e h = record { all = h.all; totalled = λ d made. h.totalled d made ∙ ap (λ (k : ℕ). total_up_to size t k d) e }
