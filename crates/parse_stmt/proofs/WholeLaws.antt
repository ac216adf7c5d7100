-- What was read of a source is what its tokens spell, or where they are at fault.
use Rattle.std.proofs.Common.{◌≡◌, ℕ, ◌<◌, List, length, map, Option, Some, None, Result, Ok, Err, sym, ap, subst, ◌∙◌, arith, true}
use Rattle.std.specs.Prelude.{All, IfOk, IfErr}
use Rattle.std.proofs.lemmas.List.{length-map}
use Rattle.tree_nodes.specs.Trees.{Tree}
use Rattle.tree_nodes.specs.Rows.{Row as Built, tree_of}
use Rattle.py_token.specs.Tokenized.{Tokenized}
use Rattle.py_blocks.specs.declared.row.BlockRow.{BlockRow}
use Rattle.py_blocks.specs.Building.{IsMade}
use Rattle.py_blocks.specs.Rows.{Row, row_of, map_row}
use Rattle.py_blocks.specs.Spelling.{Spells as SpellsTree}
use Rattle.py_blocks.specs.Taking.{grown}
use Rattle.parse_stmt.specs.declared.fault.LineCause.{LineCause}
use Rattle.parse_stmt.specs.declared.fault.SyntaxFault.{SyntaxFault}
use Rattle.parse_stmt.specs.declared.fault.SyntaxFault.TheVariants.{At, Memory}
use Rattle.parse_stmt.specs.declared.kept.KeptLine.{KeptLine}
use Rattle.parse_stmt.specs.Answers.{OnFault}
use Rattle.parse_stmt.specs.Reading.{rows_from, AreReadAll, IsRowFault, IsStopFault}
use Rattle.parse_stmt.specs.Rows.{AreRows}
use Rattle.parse_stmt.specs.Spelling.{StopsAt, AreRead, Spells, IsFault}
use Rattle.parse_stmt.proofs.KeptLaws.{rows-length, rows-made, rows-are}
use Rattle.parse_stmt.proofs.SourceLaws.{fault-of-row, fault-at-stop}

module _ (tokens : Tokenized) (built : List Built) (lines : List KeptLine) (rows : List BlockRow) (are : map row_of rows ≡ rows_from tokens 0 lines) where
  pub made : {stop : Option LineCause} → AreReadAll tokens built lines stop → All (IsMade (length built)) (map row_of rows)
  made h = subst (λ (rs : List (Row ℕ)). All (IsMade (length built)) rs) (sym are) (rows-made tokens built 0 lines h.kept)

  as-many : length rows ≡ length lines
  as-many = sym (length-map rows row_of) ∙ ap length are ∙ rows-length tokens 0 lines

  pub few : {stop : Option LineCause} → (cause : LineCause) → stop ≡ Some cause → AreReadAll tokens built lines stop → length rows < length tokens.lines
  few cause e h =
      let stops : StopsAt tokens (length lines) (Some cause) = subst (λ (s : Option LineCause). StopsAt tokens (length lines) s) e h.stops in
      omega (arith, stops.0, as-many)

  are-read : (stop : Option LineCause) → AreReadAll tokens built lines stop → AreRead tokens (grown built (map row_of rows)) stop
  are-read stop h = record {
    rows_are = subst (λ (rs : List (Row ℕ)). AreRows tokens (grown built rs)) (sym are) (rows-are tokens built lines h.kept);
    stops = subst (λ (n : ℕ). StopsAt tokens n stop) (sym (length-map (map row_of rows) (map_row (tree_of built)) ∙ length-map rows row_of ∙ as-many)) h.stops;
  }

  whole : (stop : Option LineCause) → stop ≡ None → AreReadAll tokens built lines stop → AreRead tokens (grown built (map row_of rows)) None
  whole stop e h = subst (λ (s : Option LineCause). AreRead tokens (grown built (map row_of rows)) s) e (are-read stop h)

  pub tree-spelled : (stop : Option LineCause) (result : Result Tree SyntaxFault) → stop ≡ None → AreReadAll tokens built lines stop → IfOk result (SpellsTree (grown built (map row_of rows))) → IfOk result (Spells tokens)
  tree-spelled stop (Ok tree) e h k = record { rows = grown built (map row_of rows); are_read = whole stop e h; spelled = k }
  tree-spelled stop (Err fault) e h k = tt

  pub row-at-fault : (stop : Option LineCause) (result : Result Tree SyntaxFault) → stop ≡ None → AreReadAll tokens built lines stop → IfErr result (OnFault (IsRowFault true (grown built (map row_of rows))))
      → IfErr result (OnFault (IsFault tokens))
  row-at-fault stop (Ok tree) e h k = tt
  row-at-fault stop (Err Memory) e h k = tt
  row-at-fault stop (Err (At line cause)) e h k = fault-of-row tokens (grown built (map row_of rows)) line cause (whole stop e h) k

  pub line-at-fault : (stop : Option LineCause) (cause : LineCause) (fault : SyntaxFault) → stop ≡ Some cause → AreReadAll tokens built lines stop → OnFault (IsStopFault tokens (map row_of rows) cause) fault → OnFault (IsFault tokens) fault
  line-at-fault stop cause Memory e h k = tt
  line-at-fault stop cause (At line given) e h k =
      fault-at-stop tokens built (map row_of rows) cause line given (subst (λ (s : Option LineCause). AreRead tokens (grown built (map row_of rows)) s) e (are-read stop h)) k
