use Rattle.std.proofs.Common.{◌≡◌, ◌++◌, not, drop}
use Rattle.py_token.specs.Items.{items_of}
use Rattle.py_token.specs.Scanned.{comments_from, tokens_from}
use Rattle.py_token.specs.Settings.{seen}
use Rattle.py_token.specs.Steps.{AreCut, StandsAt}
use Rattle.py_token.proofs.scan.scan.Given as goal

abbrev pub invariant-loop-piece : goal.invariant-loop-piece
invariant-loop-piece l = record {
  stands : StandsAt l.setting.from l.text l.rest l.start l.at;
  cut : AreCut l.rest (drop l.piece-index l.pieces);
  items : l.items.items ++ seen l.setting.inside (items_of l.rest (drop l.piece-index l.pieces)) ≡ seen l.setting.inside (items_of l.characters l.pieces);
  tokens : l.tokens.items ++ tokens_from l.setting.from l.text l.rest (drop l.piece-index l.pieces) ≡ tokens_from l.setting.from l.text l.characters l.pieces;
  comments : l.comments.items ++ comments_from l.setting.from l.text l.is_head l.rest (drop l.piece-index l.pieces) ≡ comments_from l.setting.from l.text (not l.setting.inside) l.characters l.pieces;
}
