-- The numbers of scopes.
use Rattle.std.specs.Prelude.{ℕ}
use Rattle.scope_rules.specs.declared.scope.ScopeId.{ScopeId}

-- the number of a scope
abbrev pub scope_number : ScopeId → ℕ
scope_number s = s.0
