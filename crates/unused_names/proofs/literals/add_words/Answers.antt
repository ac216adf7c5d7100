use Rattle.std.proofs.Common.{◌++◌, ◌∷◌, [], subst, arith}
use Rattle.unused_names.specs.Sets.{HasNames}
use Rattle.unused_names.proofs.Words.{words_on, words_end}
use Rattle.unused_names.proofs.literals.add_words.Goals as goal

pub words-preserved : goal.words-preserved
words-preserved c = record {
  len = c.word_len-len-in-words.ensures.len;
  bound = c.word_len-len-in-words.ensures.bound;
  all = λ ns h.
      let before = c.words.invariant.all ns h in (
        before.0 ++ c.split_at.result.0.now ∷ [],
        c.in_ok-add_name.ensures before.0 before.1,
        words_on before.0 _ _ _ _ _ _ c.words.invariant.len c.words-test.true c.split_at.ensures.front c.split_at.ensures.back c.split_at-in-words.ensures.back before.2,
      );
}

pub returns : goal.returns
returns c = λ ns h.
    let before = c.words.invariant.all ns h in
    subst (HasNames _) (words_end before.0 _ c.words.rest.now (omega (arith, c.words.invariant.len, c.words-test.false)) before.2) (c.in_ok-add_name-2.ensures before.0 before.1)
