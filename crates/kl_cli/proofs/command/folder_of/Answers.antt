use Rattle.kl_cli.proofs.Words.{long_folder}
use Rattle.kl_cli.proofs.command.folder_of.Goals as goal

pub returns-then-word-gt-FILE_LIMIT-clause-folder : goal.returns-then-word-gt-FILE_LIMIT-clause-folder
returns-then-word-gt-FILE_LIMIT-clause-folder c = long_folder c.args.word.now c.if-word-gt-FILE_LIMIT.true
