use Rattle.std.proofs.Common.{◌≡◌, ◌+◌, ◌∙◌, ◌++◌, ◌∷◌, [], take, refl, sym, ap, subst, arith}
use Rattle.std.proofs.lemmas.List.{take_more}
use Rattle.file_list.specs.declared.found.Found.{Found}
use Rattle.file_list.specs.Contents.{Reads}
use Rattle.file_list.specs.Gathered.{bytes_in_all}
use Rattle.file_list.proofs.Readings.{reads_none, reads_next, bytes_next, not_taken}
use Rattle.file_list.proofs.contents.read_all.Goals as goal

pub loop-f-init : goal.loop-f-init
loop-f-init g c =
    let files = c.args.files.now in
    record {
      reads = subst (λ r. Reads (g.F.Files.held files) (g.F.Files.faults files) (g.F.Files.faults files) (g.F.Files.failed files) (g.F.Files.failed files) [] r) (sym c.new-reading.ensures)
          (reads_none (g.F.Files.held files) (g.F.Files.faults files) (g.F.Files.failed files));
      held = refl;
      later = omega arith;
      bytes = ap bytes_in_all (sym c.new-reading.ensures);
    }

pub loop-f-preserved : goal.loop-f-preserved
loop-f-preserved g c =
    let so_far = c.loop-f.invariant in
    let found = c.args.found.now in
    let i = c.loop-f.f-index in
    let f : Found = c.f-item.result in
    let more : take (i + 1) found ≡ take i found ++ f ∷ [] = take_more found i f (omega arith) ∙ ap (λ (x : Found). take i found ++ x ∷ []) (sym c.f-item.is) in
    record {
      reads = subst (λ fs. Reads (g.F.Files.held c.args.files.now) (g.F.Files.faults c.args.files.now) (g.F.Files.faults c.read_next.new.files) (g.F.Files.failed c.args.files.now) (g.F.Files.failed c.read_next.new.files) fs c.read_next.new.reading) (sym more)
          (reads_next (g.F.Files.held c.args.files.now) (g.F.Files.held c.loop-f.files) _ _ _ _ _ _ (take i found) f c.loop-f.reading c.read_next.new.reading c.loop-f.so_far c.in_ok-so_far.so_far
          so_far.held (not_taken found i f (omega arith) c.f-item.is c.requires.distinct) so_far.bytes so_far.reads c.in_ok-so_far.ensures.reads);
      held = c.in_ok-so_far.ensures.held ∙ so_far.held;
      later = let a = so_far.later in let b = c.in_ok-so_far.ensures.later in omega arith;
      bytes = bytes_next (g.F.Files.held c.loop-f.files) _ _ _ _ f c.loop-f.reading c.read_next.new.reading c.loop-f.so_far c.in_ok-so_far.so_far so_far.bytes c.in_ok-so_far.ensures.reads;
    }
