-- The octets of messages and containers, as the crate envelope defines them.
unfoldable pub use Rattle.envelope.specs.Envelope.{wrong_type, ciphers, envelope}
