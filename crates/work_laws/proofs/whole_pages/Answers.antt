use Rattle.work_laws.proofs.whole_pages.Goals as goal
use Rattle.hybrid_laws.proofs.boot.Coherent.{boot-coherent}
use Rattle.hybrid_model.specs.Boot.{boot}
use Rattle.work_laws.proofs.pages.Whole.{whole-after, whole-boot, whole-journal}

pub returns-clause-begins : goal.returns-clause-begins
returns-clause-begins c = λ job imgs prepared enough. whole-boot job imgs prepared enough

pub returns-clause-kept : goal.returns-clause-kept
returns-clause-kept c = λ pair e coherent allowed whole. whole-after pair e coherent allowed whole

pub returns-clause-always : goal.returns-clause-always
returns-clause-always c = λ job imgs journal prepared legal. whole-journal journal (boot job imgs) (boot-coherent job imgs prepared legal.0) legal.1 (whole-boot job imgs prepared legal.0)
