use Rattle.kl_generate.proofs.MadeGraphs as graphs
use Rattle.kl_generate.proofs.laws.made_graph.Goals as goal

pub returns : goal.returns
returns c = graphs.made_graph
