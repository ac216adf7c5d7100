-- The messages of a node, by the name that it binds.
use Rattle.std.proofs.Common.{◌≡◌, ℕ, Bool, List, ◌++◌, sym, ap, ◌∙◌, Option, Some, None}
use Rattle.std.proofs.lemmas.List.{append-nil}
use Rattle.lint_values.specs.declared.place.FileId.{FileId}
use Rattle.lint_messages.specs.declared.message.Message.{Message}
use Rattle.tree_nodes.specs.Trees.{Tree}
use Rattle.scope_rules.specs.Nodes.{Name}
use Rattle.scope_rules.specs.Binding.{binds, own_scope}
use Rattle.scope_rules.specs.Marks.{Mark, mark_at}
use Rattle.scope_rules.specs.Declaring.{home}
use Rattle.unused_names.specs.Reads.{by_first_binder, plain_name, unless_read, named_first, unused_at}
use Rattle.unused_names.specs.UnusedRules.{name_messages, node_messages}
use Rattle.unused_names.proofs.FirstBinders.{named_none, named_some}

messages-of : (file : FileId) (p : Bool) (t : Tree) (n : ℕ) (m : Option Mark) → named_first t n ≡ m → node_messages file p t n ≡ name_messages file p t n (unless_read t m)
unfolding node_messages unused_at
messages-of file p t n m e = ap (λ (m : Option Mark). name_messages file p t n (unless_read t m)) e

-- the node is the first binder of x in s
pub node_some : (file : FileId) (p : Bool) (t : Tree) (n s : ℕ) (x : Name) → plain_name (binds t n) ≡ Some x → mark_at (Some s) x ≡ by_first_binder t n (mark_at (home t (own_scope t n) x) x)
    → name_messages file p t n (unless_read t (Some (record { scope = s; name = x }))) ≡ node_messages file p t n
node_some file p t n s x bound first = sym (messages-of file p t n (mark_at (Some s) x) (named_some t n x bound ∙ sym first))

-- it is first nowhere
pub node_later : (file : FileId) (p : Bool) (t : Tree) (n : ℕ) (x : Name) (old : List Message) → plain_name (binds t n) ≡ Some x → mark_at None x ≡ by_first_binder t n (mark_at (home t (own_scope t n) x) x) → old ≡ old ++ node_messages file p t n
node_later file p t n x old bound first = sym (ap (λ ms. old ++ ms) (messages-of file p t n None (named_some t n x bound ∙ sym first)) ∙ append-nil old)

-- it binds no name, or an exempt one
pub node_none : (file : FileId) (p : Bool) (t : Tree) (n : ℕ) (old : List Message) → plain_name (binds t n) ≡ None → old ≡ old ++ node_messages file p t n
node_none file p t n old bound = sym (ap (λ ms. old ++ ms) (messages-of file p t n None (named_none t n bound)) ∙ append-nil old)
