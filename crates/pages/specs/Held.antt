use Rattle.std.specs.Prelude.{List}
use Rattle.pages.specs.Delivered.{Delivered}
use Rattle.pages.specs.Commands.{streamed}
use Rattle.pages.specs.Heads.{listed}
use Rattle.pages.specs.declared.stream.Stream.{Stream}
use Rattle.pages.specs.declared.directory.Directory.{Directory}

-- the deliveries of a stream, worked out from the bytes that it holds
abbrev pub in_stream : Stream → List Delivered
in_stream s = streamed s.rest.now

-- the deliveries of a directory, worked out from its buffer and its heads
abbrev pub in_directory : Directory → List Delivered
in_directory d = listed d.buffer.now d.heads.now
