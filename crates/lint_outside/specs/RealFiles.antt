-- What the files of the system show: how often they have failed.
use Rattle.std.specs.Prelude.{ℕ}
use Rattle.lint_outside.specs.declared.real_files.RealFiles.{RealFiles}

abbrev pub real_faults : {R : Type 0} → RealFiles R → ℕ
real_faults files = files.faults
