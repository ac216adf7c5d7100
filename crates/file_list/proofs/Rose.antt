-- How a count has risen after one more fault.
use Rattle.std.proofs.Common.{ℕ, ◌+◌, arith}
use Rattle.lint_outside.specs.Causes.{Rose, RoseBy}

pub rose_once : (n start before now : ℕ) → RoseBy n start before → Rose before now → RoseBy (n + 1) start now
rose_once n start before now risen once = omega arith
