-- An instruction without where its names lie in memory.
use Rattle.jc_facts.specs.code.Typing as typing
use Rattle.jc_pool.specs.Views.{member_view}
use Rattle.jc_code.specs.declared.instruction.Instruction.{Instruction}
use Rattle.jc_code.specs.declared.instruction.Instruction.TheVariants as instructions
use Rattle.jc_code.specs.steps.KindView.{kind_view}

abbrev pub instruction_view : Instruction → typing.Instruction
instruction_view instructions.Nothing = typing.nothing
instruction_view (instructions.Pushes k) = typing.pushes (kind_view k)
instruction_view (instructions.LoadsClass name) = typing.loads_class name.now
instruction_view (instructions.Loads number place) = typing.loads number place
instruction_view (instructions.Stores number place) = typing.stores number place
instruction_view instructions.Pops = typing.pops
instruction_view instructions.PopsTwo = typing.pops_two
instruction_view instructions.Dups = typing.dups
instruction_view (instructions.Makes name) = typing.makes name.now
instruction_view (instructions.Casts name) = typing.casts name.now
instruction_view (instructions.Tests name) = typing.tests name.now
instruction_view (instructions.Uses act m) = typing.uses act (member_view m)
instruction_view (instructions.Constructs m) = typing.constructs (member_view m)
