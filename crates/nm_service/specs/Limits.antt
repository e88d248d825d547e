-- The limits of the service.
use Rattle.std.specs.Prelude.{ℕ}

-- the largest number of a port of TCP
abbrev pub largest_port : ℕ
largest_port = 65535

-- the most workers, each of which serves one connection after another
abbrev pub most_workers : ℕ
most_workers = 32

-- the most connections that a worker serves
abbrev pub most_connections : ℕ
most_connections = 1000000
