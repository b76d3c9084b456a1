use Rattle.kl_layout.proofs.layout.page.Goals as goal

pub page_of-requires : goal.page_of-requires
page_of-requires c = λ k d l. ((c.requires.pieces) k d l).align
