-- What holds parts opens a scope.
use Rattle.std.proofs.Common.{◌≡◌, Bool, true, false, cond, refl, not}
use Rattle.tree_nodes.specs.declared.kind.Kind.{Kind}
use Rattle.tree_nodes.specs.declared.kind.Kind.TheVariants as kinds
use Rattle.scope_rules.specs.Kinds.{is_def, is_class, opens, holds, is_around_def, is_in_body}

def-opens : (kind : Kind) → is_def kind ≡ true → opens kind ≡ true
unfolding is_def opens
def-opens kinds.FunctionDef e = refl
def-opens kinds.AsyncFunctionDef e = refl
def-opens kind e = cc

class-opens : (kind : Kind) → is_class kind ≡ true → opens kind ≡ true
unfolding is_class opens
class-opens kinds.ClassDef e = refl
class-opens kind e = cc

by_tests : (whole part : Kind) (def class : Bool) → is_def whole ≡ def → is_class whole ≡ class → cond def (not (is_around_def part)) (cond class (is_in_body part) (opens whole)) ≡ true → opens whole ≡ true
by_tests whole part true class d c e = def-opens whole d
by_tests whole part false true d c e = class-opens whole c
by_tests whole part false false d c e = e

pub holds-opens : (whole part : Kind) → holds whole part ≡ true → opens whole ≡ true
unfolding holds
holds-opens whole part e = by_tests whole part (is_def whole) (is_class whole) refl refl e
