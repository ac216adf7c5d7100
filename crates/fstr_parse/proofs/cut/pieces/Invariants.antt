use Rattle.std.proofs.Common.{◌≡◌, ◌≤◌, List, length}
use Rattle.fstr_parse.specs.Parts.{Cuts}
use Rattle.fstr_parse.specs.Pieces.{pieces_of}
use Rattle.fstr_parse.specs.declared.part.Part.{Part}
use Rattle.fstr_parse.proofs.cut.pieces.Given as goal

abbrev pub invariant-loop-pieces : goal.invariant-loop-pieces
invariant-loop-pieces l = record {
  front : List Part;
  cut : Cuts l.raw 0 l.text front l.depth l.rest;
  so_far : l.pieces ≡ pieces_of 0 0 front;
  within : length l.rest ≤ length l.text;
  small : l.depth ≤ 2;
}

abbrev pub decreases-loop-pieces : goal.decreases-loop-pieces
decreases-loop-pieces l = length l.rest
