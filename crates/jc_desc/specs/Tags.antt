-- The tags of entries of a constant pool (JVMS 4.4, table 4.4-A).
use Rattle.std.specs.Prelude.{ℕ}

-- a text
abbrev pub utf8 : ℕ
utf8 = 1

-- a number of four bytes
abbrev pub integer : ℕ
integer = 3

-- a floating-point number of four bytes
abbrev pub float : ℕ
float = 4

-- a number of eight bytes
abbrev pub long : ℕ
long = 5

-- a floating-point number of eight bytes
abbrev pub double : ℕ
double = 6

-- a class by its name
abbrev pub class : ℕ
class = 7

-- a string by its text
abbrev pub string : ℕ
string = 8

-- a field by its class, name and descriptor
abbrev pub field_ref : ℕ
field_ref = 9

-- a method of a class
abbrev pub method_ref : ℕ
method_ref = 10

-- a method of an interface
abbrev pub interface_method_ref : ℕ
interface_method_ref = 11

-- a name and a descriptor
abbrev pub name_and_type : ℕ
name_and_type = 12

-- a use of a member by its kind
abbrev pub method_handle : ℕ
method_handle = 15

-- the type of a method
abbrev pub method_type : ℕ
method_type = 16

-- a computed constant
abbrev pub dynamic : ℕ
dynamic = 17

-- a computed call site
abbrev pub invoke_dynamic : ℕ
invoke_dynamic = 18

-- the name of a module
abbrev pub module_name : ℕ
module_name = 19

-- the name of a package
abbrev pub package_name : ℕ
package_name = 20
