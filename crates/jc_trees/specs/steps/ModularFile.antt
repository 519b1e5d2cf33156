-- Files of a library that may be a named module, apart from where they lie in memory.
use Rattle.jc_trees.specs.ClassFiles.{FileRead, ClassRead, ModuleRead, without_items}
use Rattle.jc_trees.specs.declared.class_file.ModularFile.{ModularFile}
use Rattle.jc_trees.specs.declared.class_file.ModularFile.TheVariants as modular_files

abbrev pub modular_read : ModularFile → FileRead
modular_read (modular_files.Class facts) = ClassRead (without_items facts)
modular_read (modular_files.Module packages) = ModuleRead packages
