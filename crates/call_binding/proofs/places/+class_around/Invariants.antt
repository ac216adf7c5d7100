use Rattle.call_binding.proofs.places.+class_around.Given as goal

abbrev pub decreases-class_around : goal.decreases-class_around
decreases-class_around l = l.n.0
