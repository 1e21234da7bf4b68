use Rattle.reached_laws.proofs.Mapping.{lacks-frames-alone}
use Rattle.reached_laws.proofs.an_mmap_lacks_frames_alone.Goals as goal

pub returns : goal.returns
returns c = λ job imgs journal p n rights prepared legal. lacks-frames-alone job imgs journal p n rights prepared legal
