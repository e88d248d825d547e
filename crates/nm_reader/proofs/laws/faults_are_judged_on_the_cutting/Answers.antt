use Rattle.nm_reader.proofs.JudgedCuts as cuts
use Rattle.nm_reader.proofs.laws.faults_are_judged_on_the_cutting.Goals as goal

pub returns : goal.returns
returns c = cuts.faults_are_judged_on_the_cutting
