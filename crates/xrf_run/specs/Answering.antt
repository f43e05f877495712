-- What the exit may answer.
use Rattle.xrf_exit.specs.declared.ExitAnswer.{ExitAnswer}
use Rattle.xrf_exit.specs.declared.ExitAnswer.TheVariants.{Abend, Keep, Drop}
use Rattle.xrf_exit.specs.declared.Notice.{Notice}
use Rattle.xrf_exit.specs.declared.Notice.TheVariants.{AlternateLost}
use Rattle.xrf_setup.specs.declared.choice.Choice.{Choice}
use Rattle.xrf_setup.specs.declared.choice.Choice.TheVariants.{Exit}

-- KEEP and DROP are among the answers that may be given; an answer to a takeover is ABEND anyway
abbrev pub MayBe : (may : ExitAnswer → Type 0) → ExitAnswer → Type 0
MayBe may Abend = Unit {0}
MayBe may Keep = may Keep
MayBe may Drop = may Drop

-- a choice that is an EXIT is such an answer
abbrev pub MayBeSaid : (may : ExitAnswer → Type 0) → Choice → Type 0
MayBeSaid may (Exit x said) = MayBe may said
MayBeSaid may c = Unit {0}

-- each answer that a closure may give to the loss of the alternate is one of those
abbrev pub UponLoss : (gives : Notice → ExitAnswer → Type 0) → (may : ExitAnswer → Type 0) → Type 0
UponLoss gives may = (said : ExitAnswer) → gives AlternateLost said → may said
