-- The names of the kinds: Parquet's physical types. Any other text is fault 1.
use Rattle.std.specs.Prelude.{ℕ, cond, List, Ok, Err, codes, Result}
use Rattle.std.specs.Str.{bytes_eq}
use Rattle.faults.specs.declared.types.Cause.TheVariants.{Name}
use Rattle.faults.specs.declared.types.Fault.{Fault}
use Rattle.faults.specs.declared.types.Kind.{Kind}
use Rattle.faults.specs.declared.types.Kind.TheVariants.{Boolean, Int32, Int64, Float, Double, ByteArray}

abbrev pub kind_of : List ℕ → Result Kind Fault
kind_of name =
    cond (bytes_eq name (codes "BOOLEAN")) (Ok Boolean)
    (cond (bytes_eq name (codes "INT32")) (Ok Int32)
    (cond (bytes_eq name (codes "INT64")) (Ok Int64)
    (cond (bytes_eq name (codes "FLOAT")) (Ok Float)
    (cond (bytes_eq name (codes "DOUBLE")) (Ok Double)
    (cond (bytes_eq name (codes "BYTE_ARRAY")) (Ok ByteArray)
    (Err (record { cause = Name; count = 0 })))))))
