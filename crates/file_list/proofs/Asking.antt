-- How what is made by asking is put together.
use Rattle.std.proofs.Common.{◌≡◌, ℕ, ◌≤◌, Bool, true, false, List, Option, None, Some, refl, sym, ap, subst, ◌∙◌, arith}
use Rattle.std.specs.Option.{ForSome}
use Rattle.std.specs.FinMap.{get}
use Rattle.lint_outside.specs.FileTree.{FileTree}
use Rattle.lint_outside.specs.Held.{kind_of}
use Rattle.lint_outside.specs.declared.outside.Kind.{Kind}
use Rattle.lint_outside.specs.declared.outside.Question.{Question}
use Rattle.file_list.specs.declared.known.Known.{Known}
use Rattle.file_list.specs.Answers.{Answers, answers_of, unless}
use Rattle.file_list.specs.Asked.{Agrees, IsRight, IsRightSoFar, IsCounted, Asks}

-- nothing was asked
pub asks_none : {X : Type 0} (held : Option FileTree) (c : ℕ) (f : List Question) (k : Known) (meaning : Answers → X) (x : X) → ((answers : Answers) → x ≡ meaning answers) → Asks held c c f f k k meaning x
asks_none held c f k meaning x is = record {
  learns = λ answers agrees. agrees;
  is = λ answers agrees. is answers;
  right = λ tree told first right. right;
  counted = λ start counted. counted;
  later = omega arith;
}

-- what is made of an answer
pub asks_to : {X Y : Type 0} {held : Option FileTree} {c0 c1 : ℕ} {f0 f1 : List Question} {k0 k1 : Known} {m : Answers → X} {x : X} (meaning : Answers → Y) (y : Y) → Asks held c0 c1 f0 f1 k0 k1 m x → ((answers : Answers) → x ≡ m answers → y ≡ meaning answers) → Asks held c0 c1 f0 f1 k0 k1 meaning y
asks_to meaning y asked made = record {
  learns = asked.learns;
  is = λ answers agrees. made answers (asked.is answers agrees);
  right = asked.right;
  counted = asked.counted;
  later = asked.later;
}

-- what is made of two answers, the second one asked behind the first
pub asks_then : {X Y Z : Type 0} {held held_now : Option FileTree} {c0 c1 c2 : ℕ} {f0 f1 f2 : List Question} {k0 k1 k2 : Known} {m : Answers → X} {x : X} {n : Answers → Y} {y : Y} (meaning : Answers → Z) (z : Z) → held_now ≡ held → Asks held c0 c1 f0 f1 k0 k1 m x → Asks held_now c1 c2 f1 f2 k1 k2 n y → ((answers : Answers) → x ≡ m answers → y ≡ n answers → z ≡ meaning answers) → Asks held c0 c2 f0 f2 k0 k2 meaning z
asks_then meaning z same first second made = record {
  learns = λ answers agrees. first.learns answers (second.learns answers agrees);
  is = λ answers agrees. made answers (first.is answers (second.learns answers agrees)) (second.is answers agrees);
  right = λ tree told start right. second.right tree (same ∙ told) start (first.right tree told start right);
  counted = λ start counted. second.counted start (first.counted start counted);
  later = let a = first.later in let b = second.later in omega arith;
}

-- what is right stays right
pub right_so_far : {X : Type 0} {held held_now : Option FileTree} {c0 c1 : ℕ} {f0 f1 : List Question} {k0 k1 : Known} {m : Answers → X} {x : X} → held_now ≡ held → ForSome held (λ tree. IsRightSoFar tree f0 k0) → Asks held c0 c1 f0 f1 k0 k1 m x → ForSome held_now (λ tree. IsRightSoFar tree f1 k1)
right_so_far same right asked = λ tree told. let old = right tree (sym same ∙ told) in (old.0, asked.right tree (sym same ∙ told) old.0 old.1)

answered : (fails : Bool) (held kind : Kind) → Some kind ≡ unless fails held → held ≡ kind
answered true held kind e = cc
answered false held kind e = cc

-- what a look answered is what is held
pub looked_kind : {held : Option FileTree} {c0 c1 : ℕ} {f0 f1 : List Question} {k0 k1 : Known} (path : List ℕ) (kind : Kind) → ForSome held (λ tree. IsRightSoFar tree f0 k0) → Asks held c0 c1 f0 f1 k0 k1 (λ answers. answers.look path) (Some kind) → ForSome held (λ tree. kind_of (get tree path) ≡ kind)
looked_kind path kind right asked = λ tree told.
    let old = right tree told in
    let now = asked.right tree told old.0 old.1 in
    answered _ _ kind (asked.is (answers_of tree now.fails) now.agrees)
