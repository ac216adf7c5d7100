use Rattle.std.proofs.Common.{◌≡◌, suc, ◌-◌, ◌<◌, length, subst, arith}
use Rattle.fstr_parse.specs.Literals.{same_depth}
use Rattle.fstr_parse.specs.Scan.{unit_len}
use Rattle.fstr_parse.proofs.RowLaws.{Leads-push, IsBehind-more}
use Rattle.fstr_parse.specs.Scan.{Leads}
use Rattle.fstr_parse.proofs.UnitLaws.{literal_of_row}
use Rattle.fstr_parse.proofs.literal.literal_len.Goals as goal

pub loop-rest-preserved : goal.loop-rest-preserved
loop-rest-preserved c =
    let before = c.loop-rest.invariant in
    let some : 0 < unit_len c.args.raw c.args.depth c.loop-rest.rest.now = omega (arith, c.unit_len-len.ensures.value) in
    record {
      units = suc before.units;
      row = rw (c.split_at.ensures.back, c.unit_len-len.ensures.value) (Leads-push (unit_len c.args.raw) same_depth before.units c.args.depth c.args.text.now c.args.depth c.loop-rest.rest.now before.row some);
      behind = rw c.split_at.ensures.back (IsBehind-more c.args.text.now c.loop-rest.rest.now c.unit_len-len.result before.behind c.unit_len-len.ensures.within);
    }

pub returns-then-len-eq0 : goal.returns-then-len-eq0
returns-then-len-eq0 c =
    let before = c.loop-rest.invariant in
    let raw = c.args.raw in
    let depth = c.args.depth in
    let text = c.args.text.now in
    let rest = c.loop-rest.rest.now in
    let none : unit_len raw depth rest ≡ 0 = omega (arith, c.unit_len-len.ensures.value) in
    literal_of_row raw depth text (length text - length rest) (record {
      units = before.units;
      within = omega arith;
      row = subst (λ t. Leads (unit_len raw) same_depth before.units depth text depth t) before.behind.is before.row;
      ends = subst (λ t. unit_len raw depth t ≡ 0) before.behind.is none;
    })
