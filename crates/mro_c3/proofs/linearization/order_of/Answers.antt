use Rattle.std.proofs.Common.{◌<◌, ◌∙◌, subst, sym, length}
use Rattle.std.specs.List.{All}
use Rattle.std.proofs.lemmas.List.Elements.{All-same}
use Rattle.mro_c3.specs.Order.{bases}
use Rattle.mro_c3.specs.Table.{AllNumbersBelow, IsMergedBehind}
use Rattle.mro_c3.proofs.LinearizationSteps.{base_lists_below, lists_in_room, IsOrder-made, order_small, no_order_made, read_lists, pushed_start}
use Rattle.mro_c3.proofs.MarkLaws.{row_is}
use Rattle.mro_c3.proofs.linearization.order_of.Goals as goal

pub lists_of-requires : goal.lists_of-requires
lists_of-requires c =
    subst (λ bound. All (λ base. base < bound) c.as_slice.result.now) (sym c.requires.size)
    (All-same (λ base. base < c.args.class) c.as_slice.result.now (bases c.args.rows.now c.args.class)
    (c.as_slice.ensures ∙ row_is c.args.rows.now c.args.class c.index-rows-class.result c.requires.known c.index-rows-class.is)
    (c.requires.below c.args.class c.requires.known))

pub count_tails-requires-clause-below : goal.count_tails-requires-clause-below
count_tails-requires-clause-below c =
    lists_in_room c.args.class (length c.args.in_tails.now) c.deref.result.now c.requires.room
    (base_lists_below c.args.rows.now c.args.class c.args.orders.now c.deref.result.now c.requires.below c.requires.known c.requires.size c.requires.made
    (read_lists c.args.rows.now c.args.class c.args.orders.now c.index-rows-class.result c.as_slice.result.now c.in_ok-lists.lists.items c.deref.result.now c.requires.known c.index-rows-class.is c.as_slice.ensures c.in_ok-lists.ensures c.deref.ensures.value))

pub merge-requires-clause-below : goal.merge-requires-clause-below
merge-requires-clause-below c =
    subst (λ room. AllNumbersBelow room c.deref_mut.result.now) (sym c.count_tails.auto.in_tails)
    (lists_in_room c.args.class (length c.args.in_tails.now) c.deref_mut.result.now c.requires.room
    (base_lists_below c.args.rows.now c.args.class c.args.orders.now c.deref_mut.result.now c.requires.below c.requires.known c.requires.size c.requires.made
    (read_lists c.args.rows.now c.args.class c.args.orders.now c.index-rows-class.result c.as_slice.result.now c.in_ok-lists.lists.items c.deref_mut.result.now c.requires.known c.index-rows-class.is c.as_slice.ensures c.in_ok-lists.ensures c.deref_mut.ensures.value)))

pub returns-in-Some-clause-order : goal.returns-in-Some-clause-order
returns-in-Some-clause-order c =
    IsOrder-made c.args.rows.now c.args.class c.args.orders.now c.deref_mut.result.now c.push.new.self.items c.from_vec.result c.requires.made
    (read_lists c.args.rows.now c.args.class c.args.orders.now c.index-rows-class.result c.as_slice.result.now c.in_ok-lists.lists.items c.deref_mut.result.now c.requires.known c.index-rows-class.is c.as_slice.ensures c.in_ok-lists.ensures c.deref_mut.ensures.value)
    (pushed_start c.args.class c.new-numbers.result.items c.push.new.self.items c.in_ok-push.ensures.items c.new-numbers.ensures.items)
    (subst (λ xs. IsMergedBehind c.deref_mut.result.now c.push.new.self.items xs) (sym c.from_vec.ensures) (rw c.in-Some.is at c.in_ok-order.ensures.merged))

pub returns-in-Some-clause-numbers : goal.returns-in-Some-clause-numbers
returns-in-Some-clause-numbers c =
    order_small c.args.class c.deref_mut.result.now c.push.new.self.items c.from_vec.result
    (base_lists_below c.args.rows.now c.args.class c.args.orders.now c.deref_mut.result.now c.requires.below c.requires.known c.requires.size c.requires.made
    (read_lists c.args.rows.now c.args.class c.args.orders.now c.index-rows-class.result c.as_slice.result.now c.in_ok-lists.lists.items c.deref_mut.result.now c.requires.known c.index-rows-class.is c.as_slice.ensures c.in_ok-lists.ensures c.deref_mut.ensures.value))
    (pushed_start c.args.class c.new-numbers.result.items c.push.new.self.items c.in_ok-push.ensures.items c.new-numbers.ensures.items)
    (subst (λ xs. IsMergedBehind c.deref_mut.result.now c.push.new.self.items xs) (sym c.from_vec.ensures) (rw c.in-Some.is at c.in_ok-order.ensures.merged))

pub returns-clause-none : goal.returns-clause-none
returns-clause-none c =
    no_order_made c.args.rows.now c.args.class c.args.orders.now c.deref_mut.result.now c.requires.made
    (read_lists c.args.rows.now c.args.class c.args.orders.now c.index-rows-class.result c.as_slice.result.now c.in_ok-lists.lists.items c.deref_mut.result.now c.requires.known c.index-rows-class.is c.as_slice.ensures c.in_ok-lists.ensures c.deref_mut.ensures.value)
    (rw c.in-None.is at c.in_ok-order.ensures.none)
