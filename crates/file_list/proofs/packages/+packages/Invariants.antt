use Rattle.file_list.proofs.packages.+packages.Given as goal

abbrev pub decreases-packages : goal.decreases-packages
decreases-packages g l = l.most
