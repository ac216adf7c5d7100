use Rattle.std.proofs.Common.{◌≡◌, ◌∙◌, ap, arith, length, get_or, Bool, ◌||◌, ◌&&◌, false}
use Rattle.scope_rules.specs.Nodes.{kind_of}
use Rattle.scope_rules.specs.Answers.{is_group, is_delete, is_deleted}
use Rattle.scope_bind.proofs.AttributeLaws.{parent_low, deleted_some}
use Rattle.scope_bind.proofs.ListLaws.{list_length, list_get}
use Rattle.scope_bind.proofs.loads.is_deleted_below.Goals as goal

pub kind-kind-requires : goal.kind-kind-requires
kind-kind-requires c = let low = parent_low c.args.tree.now c.args.n.0 c.args.q.0 c.requires.made c.requires.above in omega (arith, low, c.requires.made)

pub bounds-deleted-q : goal.bounds-deleted-q
bounds-deleted-q c =
    let low = parent_low c.args.tree.now c.args.n.0 c.args.q.0 c.requires.made c.requires.above in
    omega (arith, low, list_length (is_deleted c.args.tree.now) c.args.n.0 c.args.deleted.now c.requires.before)

pub returns : goal.returns
returns c =
    let t = c.args.tree.now in
    let n = c.args.n.0 in
    let q = c.args.q.0 in
    let low = parent_low t n q c.requires.made c.requires.above in
    let there = list_get (is_deleted t) n c.args.deleted.now q false c.requires.before low in
    let delete = c.is_delete.ensures ∙ ap is_delete c.kind-kind.ensures in
    let group = c.is_group.ensures ∙ ap is_group c.kind-kind.ensures in
    c.either.ensures ∙ ap (λ (b : Bool). b || c.both-is_group_deleted.result) delete
    ∙ ap (λ (b : Bool). is_delete (kind_of t q) || b) (c.both-is_group_deleted.ensures ∙ ap (λ (b : Bool). b && get_or c.args.deleted.now q false) group)
    ∙ deleted_some t n q (get_or c.args.deleted.now q false) c.requires.made c.requires.above there
