-- A carried graph leads each field to its target.
use Rattle.kl_kernel.specs.OneTarget.{OneTarget}

pub one_target : OneTarget
one_target kit inputs k d h = λ img p gaps order carries. carries.reached k d h
