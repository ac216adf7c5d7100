-- The forms of trees that a language spells: all nodes are in shape, and the kinds of the trees fit the parts of a form,
-- or one of several forms, or are each of some sorts.
use Rattle.std.specs.Prelude.{List}
use Rattle.tree_nodes.specs.Trees.{Tree, pack}
use Rattle.tree_nodes.specs.Sorts.{Sort, AreOf}
use Rattle.tree_nodes.specs.Shapes.{Part, Fits, FitsOneOf}
use Rattle.tree_nodes.specs.Shaped.{kinds_of, AreShaped}
use Rattle.py_language.specs.Languages.{Language}

-- each phrase's trees are in shape, and their kinds fit these parts
pub record Forms {T : Type 0} (parts : List Part) (a : Language T) : Type 0 where
  pub shaped : (ts : List T) (out : List Tree) → a ts out → AreShaped (pack out)
  pub fits : (ts : List T) (out : List Tree) → a ts out → Fits parts (kinds_of (pack out))

-- the same of one of some forms
pub record FormsOneOf {T : Type 0} (forms : List (List Part)) (a : Language T) : Type 0 where
  pub shaped : (ts : List T) (out : List Tree) → a ts out → AreShaped (pack out)
  pub fits : (ts : List T) (out : List Tree) → a ts out → FitsOneOf forms (kinds_of (pack out))

-- each phrase's trees are in shape, and the kind of each is of one of the sorts
pub record AreOfSorts {T : Type 0} (sorts : List Sort) (a : Language T) : Type 0 where
  pub shaped : (ts : List T) (out : List Tree) → a ts out → AreShaped (pack out)
  pub each : (ts : List T) (out : List Tree) → a ts out → AreOf sorts (kinds_of (pack out))
