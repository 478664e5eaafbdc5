-- The faults: every case with its number and its layer.
use Rattle.std.specs.Prelude.{ℕ, Ok, Err, Result}
use Rattle.faults.specs.declared.types.Layer.{Layer}
use Rattle.faults.specs.declared.types.Layer.TheVariants as layer
use Rattle.faults.specs.declared.types.Cause.{Cause}
use Rattle.faults.specs.declared.types.Cause.TheVariants.{Name, Open, Source, Rows, Flag, Encoding, NoDictionary, Validity, Values, Index, Dictionary, ChunkRows, ChunkMemory, ChunkBytes}
use Rattle.faults.specs.declared.types.Fault.{Fault}

abbrev pub number_of : Cause → ℕ
number_of Name = 1
number_of Open = 2
number_of (Source n) = 3
number_of Rows = 4
number_of Flag = 5
number_of Encoding = 6
number_of NoDictionary = 7
number_of Validity = 8
number_of Values = 9
number_of Index = 10
number_of Dictionary = 11
number_of ChunkRows = 12
number_of ChunkMemory = 13
number_of ChunkBytes = 14

abbrev pub layer_of : Cause → Layer
layer_of Name = layer.Name
layer_of Open = layer.Open
layer_of (Source n) = layer.Source
layer_of Rows = layer.Page
layer_of Flag = layer.Page
layer_of Encoding = layer.Page
layer_of NoDictionary = layer.Page
layer_of Validity = layer.Validity
layer_of Values = layer.Values
layer_of Index = layer.Values
layer_of Dictionary = layer.Dictionary
layer_of ChunkRows = layer.Chunk
layer_of ChunkMemory = layer.Chunk
layer_of ChunkBytes = layer.Chunk

-- go on with what is sound; a fault found below is passed up unaltered
abbrev pub then_do : {A B : Type 0} → Result A Cause → (A → Result B Cause) → Result B Cause
then_do (Ok x) f = f x
then_do (Err e) f = Err e

-- a fault found below, with the count of deliveries that the read adds
abbrev pub counted : {A : Type 0} → ℕ → Result A Cause → Result A Fault
counted n (Ok x) = Ok x
counted n (Err e) = Err (record { cause = e; count = n })
