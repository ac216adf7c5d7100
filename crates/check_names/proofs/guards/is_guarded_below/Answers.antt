use Rattle.std.proofs.Common.{◌∙◌, ap, arith, get_or, Bool, false, not, ◌||◌}
use Rattle.tree_nodes.specs.Trees.{count_of}
use Rattle.scope_bind.proofs.AttributeLaws.{parent_low}
use Rattle.scope_bind.proofs.ListLaws.{list_length, list_get}
use Rattle.check_names.specs.Kinds.{is_clause}
use Rattle.check_names.specs.Guards.{is_guard, is_guarded}
use Rattle.check_names.proofs.GuardLaws.{guarded_some}
use Rattle.check_names.proofs.guards.is_guarded_below.Goals as goal

pub bounds-guards-q : goal.bounds-guards-q
bounds-guards-q c =
    let low = parent_low c.args.tree.now c.args.n.0 c.args.q.0 c.requires.made c.requires.above in
    omega (arith, low, c.requires.made, list_length (is_guard c.args.tree.now) (count_of c.args.tree.now) c.args.guards.now c.requires.guards)

pub bounds-guarded-q : goal.bounds-guarded-q
bounds-guarded-q c =
    let low = parent_low c.args.tree.now c.args.n.0 c.args.q.0 c.requires.made c.requires.above in
    omega (arith, low, list_length (is_guarded c.args.tree.now) c.args.n.0 c.args.guarded.now c.requires.before)

pub returns : goal.returns
returns c =
    let t = c.args.tree.now in
    let n = c.args.n.0 in
    let q = c.args.q.0 in
    let low = parent_low t n q c.requires.made c.requires.above in
    let guard = list_get (is_guard t) (count_of t) c.args.guards.now q false c.requires.guards (omega (arith, low, c.requires.made)) in
    let guarded = list_get (is_guarded t) n c.args.guarded.now q false c.requires.before low in
    let part = ap not (c.is_clause-is_part.ensures ∙ ap is_clause c.kind.ensures) in
    c.either.ensures ∙ ap (λ (b : Bool). b || get_or c.args.guarded.now q false) c.both-is_body.ensures
    ∙ guarded_some t n q (get_or c.args.guards.now q false) (not c.is_clause-is_part.result) (get_or c.args.guarded.now q false) c.requires.made c.requires.above guard part guarded
