use Rattle.rv64i_user.proofs.across.+put.Given as goal

abbrev pub decreases-put : goal.decreases-put
decreases-put g l = l.n
