-- The order of a class from those of its bases.
use Rattle.std.proofs.Common.{◌≡◌, ℕ, ◌+◌, ◌≤◌, ◌<◌, List, [], ◌∷◌, ◌++◌, Bool, true, false, map, ap, subst, sym, ◌∙◌, arith, length, get_or, Option, Some, None, Result, Ok, Err, inl, inr}
use Rattle.std.specs.List.{All}
use Rattle.std.specs.Option.{IfSome}
use Rattle.std.specs.Result.{IfOk}
use Rattle.std.proofs.lemmas.List.{length_push, get_or_append_left, get_or_push}
use Rattle.std.proofs.lemmas.List.Elements.{All-head, All-tail, All-nil, All-cons, All-append, All-push, All-same, All-weaker}
use Rattle.mro_c3.specs.Laws.{IsLinear}
use Rattle.mro_c3.specs.Merge.{Merges}
use Rattle.mro_c3.specs.Order.{bases, merged_lists, BasesAreBelow, IsOrder, linearized}
use Rattle.mro_c3.specs.Table.{AllNumbersBelow, HasBaseOrders, HasOrders, IsMarked, IsMergedBehind, MarksReached, order_at}
use Rattle.mro_c3.proofs.MarkLaws.{row_is}
use Rattle.mro_c3.proofs.MergeSteps.{Merges-below}
use Rattle.mro_c3.proofs.Occurrences.{same_or_other}
use Rattle.mro_c3.proofs.OrderLaws.{below_row, map_same, IsOrder-unique, IsOrder-reached, IsLinear-order}

orders_below : (bound : ℕ) (orders : List (List ℕ)) (row : List ℕ) → AllNumbersBelow bound orders → All (λ base. base < length orders) row → AllNumbersBelow bound (map (order_at orders) row)
orders_below bound orders [] below known = All-nil (λ l. All (λ n. n < bound) l)
orders_below bound orders (b ∷ row) below known =
    All-cons (λ l. All (λ n. n < bound) l) (order_at orders b) (map (order_at orders) row)
    (below b [] (All-head (λ base. base < length orders) b row known))
    (orders_below bound orders row below (All-tail (λ base. base < length orders) b row known))

-- the lists that are merged have smaller numbers than the class
pub lists_below : (class : ℕ) (orders : List (List ℕ)) (row : List ℕ) → length orders ≡ class → AllNumbersBelow class orders → All (λ base. base < class) row → AllNumbersBelow class (merged_lists row (order_at orders))
lists_below class orders row size below known =
    All-append (λ l. All (λ n. n < class) l) (map (order_at orders) row) (row ∷ [])
    (orders_below class orders row below (subst (λ b. All (λ base. base < b) row) (sym size) known))
    (All-cons (λ l. All (λ n. n < class) l) row [] known (All-nil (λ l. All (λ n. n < class) l)))

pub lists_in_room : (class room : ℕ) (lists : List (List ℕ)) → class ≤ room → AllNumbersBelow class lists → AllNumbersBelow room lists
lists_in_room class room lists fits below =
    All-weaker (λ l. All (λ n. n < class) l) (λ l. All (λ n. n < room) l)
    (λ l small. All-weaker (λ n. n < class) (λ n. n < room) (λ n less. omega (arith, less, fits)) l small) lists below

-- what is merged, as the code reads it
pub read_lists : (rows : List (List ℕ)) (class : ℕ) (orders : List (List ℕ)) (read row : List ℕ) (made lists : List (List ℕ)) → class < length rows → read ≡ get_or rows class read → row ≡ read → made ≡ merged_lists row (order_at orders) → lists ≡ made → lists ≡ merged_lists (bases rows class) (order_at orders)
read_lists rows class orders read row made lists known is same merged taken =
    taken ∙ merged ∙ ap (λ r. merged_lists r (order_at orders)) (same ∙ row_is rows class read known is)

-- what is merged behind a class has smaller numbers
pub base_lists_below : (rows : List (List ℕ)) (class : ℕ) (orders lists : List (List ℕ)) → BasesAreBelow rows → class < length rows → length orders ≡ class → HasBaseOrders rows class orders → lists ≡ merged_lists (bases rows class) (order_at orders) → AllNumbersBelow class lists
base_lists_below rows class orders lists below known size made is =
    subst (λ ls. AllNumbersBelow class ls) (sym is) (lists_below class orders (bases rows class) size made.below (below class known))

-- Where the orders of the bases are made.

pub HasBaseOrders-marked : (rows : List (List ℕ)) (k class : ℕ) (marks : List Bool) (orders : List (List ℕ)) → BasesAreBelow rows → MarksReached rows k marks → IsMarked marks class → length orders ≡ class → HasOrders rows marks orders → HasBaseOrders rows class orders
HasBaseOrders-marked rows k class marks orders below reached marked size made = record {
  ordered = λ base among. made.ordered base (omega (arith, size, below_row rows below class base among)) (reached.closed class base marked among);
  below = subst (λ b. AllNumbersBelow b orders) size made.below;
}

-- a merge behind the class is its order
pub IsOrder-made : (rows : List (List ℕ)) (class : ℕ) (orders : List (List ℕ)) (lists : List (List ℕ)) (start order : List ℕ) → HasBaseOrders rows class orders → lists ≡ merged_lists (bases rows class) (order_at orders) → start ≡ class ∷ [] → IsMergedBehind lists start order → IsOrder rows class order
IsOrder-made rows class orders lists start order made is began behind =
    let same : order ≡ class ∷ behind.merged = behind.behind ∙ ap (λ xs. xs ++ behind.merged) began in
    subst (λ xs. IsOrder rows class xs) (sym same)
    (linearized (order_at orders) made.ordered (subst (λ ls. Merges ls behind.merged) is behind.merges))

-- of numbers up to the class
pub order_small : (class : ℕ) (lists : List (List ℕ)) (start order : List ℕ) → AllNumbersBelow class lists → start ≡ class ∷ [] → IsMergedBehind lists start order → All (λ n. n < class + 1) order
order_small class lists start order below began behind =
    All-same (λ n. n < class + 1) order (class ∷ behind.merged) (behind.behind ∙ ap (λ xs. xs ++ behind.merged) began)
    (All-cons (λ n. n < class + 1) class behind.merged (omega arith)
    (All-weaker (λ n. n < class) (λ n. n < class + 1) (λ n less. omega (arith, less)) behind.merged (Merges-below class lists behind.merged below behind.merges)))

made_merges : (rows : List (List ℕ)) (orders : List (List ℕ)) {class : ℕ} {order : List ℕ} → HasBaseOrders rows class orders → IsOrder rows class order → (merged : List ℕ) × Merges (merged_lists (bases rows class) (order_at orders)) merged
made_merges rows orders made (linearized {k} {merged} f others merges) =
    let agree : map f (bases rows k) ≡ map (order_at orders) (bases rows k) =
    map_same f (order_at orders) (bases rows k) (λ base among. IsOrder-unique rows (others base among) (made.ordered base among)) in
    (merged, subst (λ lists. Merges (lists ++ bases rows k ∷ []) merged) agree merges)

-- where there is no merge the class has no order
pub no_order_made : (rows : List (List ℕ)) (class : ℕ) (orders : List (List ℕ)) (lists : List (List ℕ)) → HasBaseOrders rows class orders → lists ≡ merged_lists (bases rows class) (order_at orders) → ((merged : List ℕ) → Merges lists merged → ⊥) → (order : List ℕ) → IsOrder rows class order → ⊥
no_order_made rows class orders lists made is none order ordered =
    let merge : (merged : List ℕ) × Merges (merged_lists (bases rows class) (order_at orders)) merged = made_merges rows orders made ordered in
    none merge.0 (subst (λ ls. Merges ls merge.0) (sym is) merge.1)

-- and no class that reaches it has one
pub no_order_reached : (rows : List (List ℕ)) (k class : ℕ) (marks : List Bool) → MarksReached rows k marks → IsMarked marks class → ((order : List ℕ) → IsOrder rows class order → ⊥) → (order : List ℕ) → IsOrder rows k order → ⊥
no_order_reached rows k class marks reached marked none order ordered =
    let above : (higher : List ℕ) × IsOrder rows class higher = IsOrder-reached rows (reached.reached class marked) ordered in
    none above.0 above.1

-- The table of orders.

pub HasOrders-nil : (rows : List (List ℕ)) (marks : List Bool) → HasOrders rows marks []
HasOrders-nil rows marks = record {
  ordered = λ n below. absurd (omega (arith, below));
  below = All-nil (λ l. All (λ n. n < 0) l);
}

HasOrders-push : (rows : List (List ℕ)) (class : ℕ) (marks : List Bool) (orders : List (List ℕ)) (order : List ℕ) → length orders ≡ class → HasOrders rows marks orders → (IsMarked marks class → IsOrder rows class order) → All (λ n. n < class + 1) order → HasOrders rows marks (orders ++ order ∷ [])
HasOrders-push rows class marks orders order size made ordered small = record {
  ordered = λ n below marked.
      elim (same_or_other n class) [
        | inl same ↦
            let at : order_at (orders ++ order ∷ []) class ≡ order = get_or_push orders order [] class size in
            subst (λ m. IsOrder rows m (order_at (orders ++ order ∷ []) m)) (sym same)
            (subst (λ xs. IsOrder rows class xs) (sym at) (ordered (subst (λ m. IsMarked marks m) same marked)))
        | inr differs ↦
            let small_n : n < length orders = omega (arith, below, size, differs, length_push orders order) in
            subst (λ xs. IsOrder rows n xs) (sym (get_or_append_left orders (order ∷ []) [] n small_n)) (made.ordered n small_n marked)
      ];
  below =
      subst (λ b. AllNumbersBelow b (orders ++ order ∷ [])) (sym (length_push orders order ∙ ap (λ m. m + 1) size))
      (All-push (λ l. All (λ n. n < class + 1) l) orders order
      (lists_in_room (length orders) (class + 1) orders (omega (arith, size)) made.below)
      small);
}

-- with the order of a class that is reached
pub HasOrders-made : (rows : List (List ℕ)) (class : ℕ) (marks : List Bool) (orders after : List (List ℕ)) (order : List ℕ) → length orders ≡ class → HasOrders rows marks orders → IsOrder rows class order → All (λ n. n < class + 1) order → after ≡ orders ++ order ∷ [] → HasOrders rows marks after
HasOrders-made rows class marks orders after order size made is small pushed =
    subst (λ os. HasOrders rows marks os) (sym pushed) (HasOrders-push rows class marks orders order size made (λ _. is) small)

-- with an empty list for a class that is not reached
pub HasOrders-skipped : (rows : List (List ℕ)) (class : ℕ) (marks : List Bool) (orders after : List (List ℕ)) (order : List ℕ) → get_or marks class false ≡ false → length orders ≡ class → HasOrders rows marks orders → order ≡ [] → after ≡ orders ++ order ∷ [] → HasOrders rows marks after
HasOrders-skipped rows class marks orders after order unmarked size made empty pushed =
    subst (λ os. HasOrders rows marks os) (sym pushed)
    (HasOrders-push rows class marks orders order size made (λ marked. let h : false ≡ true = sym unmarked ∙ marked in absurd (cc))
    (All-same (λ n. n < class + 1) order [] empty (All-nil (λ n. n < class + 1))))

-- what is answered follows the laws
pub laws_of : {E : Type 0} (rows : List (List ℕ)) (k : ℕ) (answer : Result (Option (List ℕ)) E) → BasesAreBelow rows → IfOk answer (λ order. IfSome order (IsOrder rows k)) → IfOk answer (λ order. IfSome order (IsLinear rows k))
laws_of rows k (Ok (Some order)) below is = IsLinear-order rows k order below is
laws_of rows k (Ok None) below is = tt
laws_of rows k (Err fault) below is = tt

pub size_pushed : (class : ℕ) (orders after : List (List ℕ)) (order : List ℕ) → length orders ≡ class → after ≡ orders ++ order ∷ [] → length after ≡ class + 1
size_pushed class orders after order size pushed = ap length pushed ∙ length_push orders order ∙ ap (λ m. m + 1) size

pub pushed_start : (class : ℕ) (before after : List ℕ) → after ≡ before ++ class ∷ [] → before ≡ [] → after ≡ class ∷ []
pushed_start class before after pushed empty = pushed ∙ ap (λ xs. xs ++ class ∷ []) empty
