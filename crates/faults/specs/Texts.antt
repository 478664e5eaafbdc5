-- What a fault says to a reader.
use Rattle.std.specs.Prelude.{ℕ, cond, List, ◌++◌, codes, decimal, ◌==◌}
use Rattle.faults.specs.declared.types.Layer.{Layer}
use Rattle.faults.specs.declared.types.Layer.TheVariants as layer
use Rattle.faults.specs.declared.types.Cause.{Cause}
use Rattle.faults.specs.declared.types.Cause.TheVariants.{Name, Open, Source, Rows, Flag, Encoding, NoDictionary, Validity, Values, Index, Dictionary, ChunkRows, ChunkMemory, ChunkBytes}
use Rattle.faults.specs.declared.types.Fault.{Fault}
use Rattle.faults.specs.Faults.{number_of, layer_of}

abbrev pub layer_name : Layer → List ℕ
layer_name layer.Name = codes "name"
layer_name layer.Open = codes "open"
layer_name layer.Source = codes "source"
layer_name layer.Page = codes "page"
layer_name layer.Validity = codes "validity"
layer_name layer.Values = codes "values"
layer_name layer.Dictionary = codes "dictionary"
layer_name layer.Chunk = codes "chunk"

-- a source's own fault, by its number: those of a stream have words
abbrev pub source_text : ℕ → List ℕ
source_text n =
    cond (n == 1) (codes "the stream has an unknown command (source fault 1)")
    (cond (n == 2) (codes "the stream is cut short (source fault 2)")
    (cond (n == 3) (codes "the stream has a flag that is neither 0 nor 1 (source fault 3)")
    (codes "the source is at fault")))

abbrev pub cause_text : Cause → List ℕ
cause_text Name = codes "no such type name"
cause_text Open = codes "a chunk size of 0 or above 65536"
cause_text (Source n) = source_text n
cause_text Rows = codes "more than 1048576 rows or entries"
cause_text Flag = codes "the page's optional flag is not the column's"
cause_text Encoding = codes "an encoding that is not read for this kind"
cause_text NoDictionary = codes "a dictionary encoding, and no dictionary is held"
cause_text Validity = codes "the validity runs are broken or too few"
cause_text Values = codes "the values are broken or too few"
cause_text Index = codes "an index at or above the dictionary's entries"
cause_text Dictionary = codes "the dictionary's body is broken"
cause_text ChunkRows = codes "the chunk does not have the rows pending"
cause_text ChunkMemory = codes "the chunk's memory is too small"
cause_text ChunkBytes = codes "the rows' bytes do not fit into the chunk"

-- its number, its layer, the count of deliveries, and the words
abbrev pub fault_text : Fault → List ℕ
fault_text f =
    codes "Fault " ++ (decimal (number_of f.cause) ++ (codes " (" ++ (layer_name (layer_of f.cause)
    ++ (codes ") at delivery " ++ (decimal f.count ++ (codes ": " ++ cause_text f.cause))))))
