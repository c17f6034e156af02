-- The words of the command line.
use Rattle.std.specs.Prelude.{ℕ, List, codes}
use Rattle.label.specs.declared.command.Flag.{Flag}
use Rattle.label.specs.declared.command.Flag.TheVariants.{From, To, House}
use Rattle.label.specs.declared.command.Verb.{Verb}
use Rattle.label.specs.declared.command.Verb.TheVariants.{Convert, Show, Signs, Help}

abbrev pub flag_name : Flag → List ℕ
flag_name From = codes "--from"
flag_name To = codes "--to"
flag_name House = codes "--house"

abbrev pub verb_name : Verb → List ℕ
verb_name Convert = codes "convert"
verb_name Show = codes "show"
verb_name Signs = codes "signs"
verb_name Help = codes "help"
