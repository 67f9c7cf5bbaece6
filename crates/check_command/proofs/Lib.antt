pub mod AuditLaws
pub mod RunLaws
