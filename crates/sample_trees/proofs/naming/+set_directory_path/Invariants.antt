use Rattle.sample_trees.proofs.naming.+set_directory_path.Given as goal

abbrev pub decreases-set_directory_path : goal.decreases-set_directory_path
decreases-set_directory_path l = l.number
