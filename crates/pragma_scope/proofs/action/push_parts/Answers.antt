use Rattle.std.proofs.Common.{◌≡◌, ℕ, List, ◌++◌, ◌∙◌, rules, lit<, ap}
use Rattle.std.specs.List.{flat_map}
use Rattle.std.proofs.lemmas.Iterator.Consumers.{YieldsList-end}
use Rattle.std.proofs.lemmas.Iterator.Splits.{YieldsList-from_str_split}
use Rattle.py_token.specs.declared.token.Comment.{Comment}
use Rattle.pragma_scope.specs.declared.action.Action.{Action}
use Rattle.pragma_scope.specs.Actions.{actions_in}
use Rattle.pragma_scope.proofs.action.push_parts.Goals as goal

all_parts : (initial now : List Action) (comment : Comment) (xs ys : List (List ℕ)) → now ≡ initial ++ flat_map (actions_in comment) xs → xs ≡ ys → now ≡ initial ++ flat_map (actions_in comment) ys
all_parts initial now comment xs ys is e = is ∙ ap (λ zs. initial ++ flat_map (actions_in comment) zs) e

pub returns : goal.returns
returns c =
    let t = YieldsList-end (YieldsList-from_str_split 35 c.args.text.now (lit< tt) (search rules) (search rules) (search rules)) c.loop-part.yielded _ c.loop-part.yielded_by _ _ c.in-None.is c.next.ensures.steps in
    all_parts _ _ c.args.comment _ _ c.loop-part.invariant t.0
