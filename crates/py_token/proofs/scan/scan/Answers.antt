use Rattle.std.proofs.Common.{arith, rules, ◌+◌, ◌<◌, length, refl, sym, ap, ◌∙◌, ◌++◌, ◌∷◌, [], encode_utf8_all}
use Rattle.std.proofs.lemmas.List.{drop_more}
use Rattle.py_lexeme.specs.declared.piece.Kind.TheVariants.{Blank}
use Rattle.py_source.specs.Places.{pos_from}
use Rattle.py_token.proofs.ScanLaws.{comments_turn, cut_front, front_some, items_turn, size_split, size_strict, stands_behind, stands_first, start_is, tokens_turn}
use Rattle.py_token.proofs.scan.scan.Goals as goal

pub loop-piece-init : goal.loop-piece-init
loop-piece-init c = record {
  stands = stands_first c.args.setting.from c.args.text.now c.args.characters.now c.utf8.text c.requires.same;
  cut = c.requires.cut;
  items = search rules;
  tokens = search rules;
  comments = search rules;
}

pub byte_len-requires : goal.byte_len-requires
byte_len-requires c =
    omega (arith, size_split _ _ _ c.split_at.result.0.now c.split_at.result.1.now _ _ _ c.loop-piece.invariant.stands c.split_at.ensures.front c.split_at.ensures.back, c.requires.short)

pub overflow_cast-end : goal.overflow_cast-end
overflow_cast-end c =
    omega (arith, size_split _ _ _ c.split_at.result.0.now c.split_at.result.1.now _ _ _ c.loop-piece.invariant.stands c.split_at.ensures.front c.split_at.ensures.back, c.requires.short, c.byte_len.ensures)

pub overflow_add-end : goal.overflow_add-end
overflow_add-end c =
    omega (arith, size_split _ _ _ c.split_at.result.0.now c.split_at.result.1.now _ _ _ c.loop-piece.invariant.stands c.split_at.ensures.front c.split_at.ensures.back, c.requires.short, c.byte_len.ensures)

pub pos_behind-at-requires-clause-line : goal.pos_behind-at-requires-clause-line
pos_behind-at-requires-clause-line c =
    λ more.
    let some : 0 < length c.split_at.result.1.now = omega (arith, c.split_at.ensures.back_len, more) in
    omega (arith, size_strict _ _ _ _ c.split_at.result.1.now _ _ _ c.loop-piece.invariant.stands refl c.split_at.ensures.back some, c.requires.lines, c.loop-piece.invariant.stands.line)

pub pos_behind-at-requires-clause-col : goal.pos_behind-at-requires-clause-col
pos_behind-at-requires-clause-col c =
    λ more.
    let some : 0 < length c.split_at.result.1.now = omega (arith, c.split_at.ensures.back_len, more) in
    omega (arith, size_strict _ _ _ _ c.split_at.result.1.now _ _ _ c.loop-piece.invariant.stands refl c.split_at.ensures.back some, c.requires.columns, c.loop-piece.invariant.stands.col)

pub loop-piece-preserved : goal.loop-piece-preserved
loop-piece-preserved c =
    let is_left = drop_more c.args.pieces.now c.loop-piece.piece-index (record { kind = Blank; len = 0 }) (omega arith) in
    let here = cut_front _ _ _ _ is_left c.loop-piece.invariant.cut in
    let some : 0 < length c.loop-piece.rest.now = front_some _ _ here.0 in
    let is_front = c.split_at.ensures.front in
    let is_behind = c.split_at.ensures.back in
    let is_start = start_is c.args.setting.from c.args.text.now c.loop-piece.rest.now c.loop-piece.start c.loop-piece.at c.loop-piece.invariant.stands in
    let is_at = c.loop-piece.invariant.stands.pos some in
    let is_size = c.byte_len.ensures in
    let at_front = is_size ∙ ap (λ f. length (encode_utf8_all f)) is_front in
    let stands =
    stands_behind c.args.setting.from c.args.text.now c.loop-piece.rest.now c.split_at.result.0.now c.split_at.result.1.now c.loop-piece.start _ c.byte_len.result c.loop-piece.at c.pos_behind-at.result c.loop-piece.invariant.stands is_front is_behind is_size (λ more. c.pos_behind-at.ensures.value (omega (arith, c.split_at.ensures.back_len, more)) ∙ ap (λ n. pos_from c.loop-piece.at n (encode_utf8_all c.loop-piece.rest.now)) (sym at_front)) (λ _. some) (omega (arith, at_front, c.pos_behind-at.ensures.line)) (omega (arith, at_front, c.pos_behind-at.ensures.col)) in
    let is_end = start_is c.args.setting.from c.args.text.now c.split_at.result.1.now (c.loop-piece.start + c.byte_len.result) c.pos_behind-at.result stands in
    record {
      stands = stands;
      cut = rw is_behind here.1;
      items = items_turn c.args.setting.inside _ c.loop-piece.items.items c.push.new.self.items c.loop-piece.rest.now c.split_at.result.0.now c.split_at.result.1.now _ _ _ c.item_of-item.result is_left is_front is_behind c.item_of-item.ensures (c.in_ok-push.ensures.items ∙ ap (λ i. c.loop-piece.items.items ++ i ∷ []) c.seen_as.ensures) c.loop-piece.invariant.items;
      tokens = tokens_turn c.args.setting.from _ c.loop-piece.tokens.items c.add_token.new.tokens.items c.args.text.now c.loop-piece.rest.now c.split_at.result.1.now _ _ _ c.loop-piece.start (c.loop-piece.start + c.byte_len.result) c.loop-piece.at is_left is_behind is_start is_end is_at c.in_ok-add_token.ensures c.loop-piece.invariant.tokens;
      comments = comments_turn c.args.setting.from _ c.loop-piece.comments.items c.add_comment.new.comments.items c.args.text.now c.loop-piece.rest.now c.split_at.result.0.now c.split_at.result.1.now _ _ _ c.loop-piece.is_head c.is_head_behind-is_head.result c.item_of-item.result c.loop-piece.start (c.loop-piece.start + c.byte_len.result) c.loop-piece.at is_left is_front is_behind c.item_of-item.ensures c.is_head_behind-is_head.ensures is_start is_end is_at c.in_ok-add_comment.ensures c.loop-piece.invariant.comments;
    }
