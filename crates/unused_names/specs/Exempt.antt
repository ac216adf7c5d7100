-- Which names are never reported, since they say themselves that they are unused.
use Rattle.std.specs.Prelude.{Bool, ◌||◌, codes, nat_eq}
use Rattle.std.specs.List.{starts_with}
use Rattle.std.specs.Str.{bytes_eq}
use Rattle.scope_rules.specs.Nodes.{Name}

-- a name that begins with `_`, `ignored_` or `unused_`, or is `dummy`
unfoldable pub is_exempt : Name → Bool
is_exempt x = starts_with nat_eq x (codes "_") || (starts_with nat_eq x (codes "ignored_") || (starts_with nat_eq x (codes "unused_") || bytes_eq x (codes "dummy")))
