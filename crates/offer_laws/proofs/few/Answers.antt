use Rattle.offer_laws.proofs.few.Goals as goal
use Rattle.hybrid_laws.proofs.boot.Coherent.{boot-coherent}
use Rattle.hybrid_model.specs.Boot.{boot}
use Rattle.offer_laws.proofs.Small.{boot-small, numbers-fit, small-after, small-journal}

pub returns-clause-begins : goal.returns-clause-begins
returns-clause-begins c = λ job imgs prepared. boot-small job imgs prepared

pub returns-clause-kept : goal.returns-clause-kept
returns-clause-kept c = λ pair e coherent m small. small-after pair coherent e m small

pub returns-clause-always : goal.returns-clause-always
returns-clause-always c = λ job imgs journal prepared legal. small-journal journal (boot job imgs) (boot-coherent job imgs prepared legal.0) (boot-small job imgs prepared) legal.1

pub returns-clause-numbers : goal.returns-clause-numbers
returns-clause-numbers c = λ pair coherent small. numbers-fit pair coherent small
