use Rattle.rv64i_user.proofs.across.+number.Given as goal

abbrev pub decreases-number : goal.decreases-number
decreases-number g l = l.n
