-- The digest of a set: a number that equal sets share, by its values in ascending order.
use Rattle.std.specs.Prelude.{◌≡◌, ℕ, ◌+◌, ◌*◌, ◌%◌, ◌^◌, ◌⊎◌, List, None}
use Rattle.std.specs.List.{fold}
use Rattle.lint_values.specs.declared.place.NodeRef.{NodeRef}
use Rattle.infer_sets.specs.declared.abs_val.AbsVal.{AbsVal}
use Rattle.infer_sets.specs.declared.abs_val.AbsVal.TheVariants.{Inst, Class, Func, Bound, Module}
use Rattle.infer_sets.specs.declared.abs_val.ClassRef.{ClassRef}
use Rattle.infer_sets.specs.declared.abs_val.ClassRef.TheVariants.{Seen, Builtin}
use Rattle.infer_sets.specs.declared.abs_val.Recv.{Recv}
use Rattle.infer_sets.specs.declared.abs_val.Recv.TheVariants as recv
use Rattle.infer_sets.specs.contracts.builtin_kind.BuiltinKind.{the_type}
use denote.Enum.Declared.{tag_of}
use Rattle.infer_sets.specs.Sets.{Set}
use Rattle.infer_sets.specs.Listed.{IsListed}

-- one code made of two
unfoldable pub mixed : ℕ → ℕ → ℕ
mixed h n = ((h * 6364136223846793005) % 2 ^ 64 + n) % 2 ^ 64

abbrev pub node_code : NodeRef → ℕ
node_code n = mixed n.file.0 n.node.0

abbrev pub class_code : ClassRef → ℕ
class_code (Seen n) = node_code n
class_code (Builtin kind) = tag_of the_type kind

abbrev pub receiver_code : Recv → ℕ
receiver_code (recv.Inst c) = mixed 5 (class_code c)
receiver_code (recv.Class c) = mixed 6 (class_code c)

abbrev pub value_code : AbsVal → ℕ
value_code (Inst c) = mixed 1 (class_code c)
value_code (Class c) = mixed 2 (class_code c)
value_code (Func f) = mixed 3 (node_code f)
value_code (Bound f r) = mixed (node_code f) (receiver_code r)
value_code (Module m) = mixed 4 m.0

abbrev pub hash : List AbsVal → ℕ
hash xs = fold (λ h x. mixed h (value_code x)) 7 xs

-- Uninferable has 0, and all else the hash of its values
pub record IsHash (s : Set) (d : ℕ) : Type 0 where
  pub values : List AbsVal
  pub listed : IsListed s values
  pub is : d ≡ hash values

unfoldable pub IsDigest : Set → ℕ → Type 0
IsDigest s d = ((s ≡ None) × (d ≡ 0)) ⊎ IsHash s d
