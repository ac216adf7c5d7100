use Rattle.std.proofs.Common.{rules}
use Rattle.file_list.specs.declared.found.Found.{Found}
use Rattle.file_list.proofs.Taken.{paths_more, ended_more}
use Rattle.file_list.proofs.findings.Findings.add.Goals as goal

pub invariant_of-self-in-Ok : goal.invariant_of-self-in-Ok
invariant_of-self-in-Ok c =
    let f : Found = record { path = c.in_ok-path.path; module_name = c.args.module_name; is_package = c.args.is_package; finding = c.next_finding-finding.result } in
    record {
      paths = rw c.in_ok-push.ensures.items (paths_more c.self.inside.found.items f c.self.inside.taken c.insert.new.self c.in_ok-taken.taken (search rules) c.self.invariant.paths c.in-Ok.ensures.updates);
      ended = rw c.in_ok-push.ensures.items (ended_more c.self.inside.found.items f c.self.inside.ended c.either-ended.result c.is_too_many.result c.self.invariant.ended c.is_too_many.ensures c.either-ended.ensures);
    }
