use Rattle.lwk_threads.proofs.Showing.{cloned-shown}
use Rattle.lwk_threads.proofs.clone_is_the_call.Goals as goal

pub returns : goal.returns
returns g c = λ does node t x args state. cloned-shown does node t x args state
