use Rattle.call_phases.proofs.vectors.+add_vectors.Given as goal

abbrev pub decreases-add_vectors : goal.decreases-add_vectors
decreases-add_vectors l = l.count
